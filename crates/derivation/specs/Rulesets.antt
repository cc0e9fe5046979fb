-- What a ruleset holds.
use Rattle.std.specs.Prelude.{ℕ, List, vec_items, vec_len}
use Rattle.semantics.specs.Rules.{Rule}
use Rattle.lines.specs.Lines.{rules_of}
use Rattle.derivation.specs.declared.ruleset.Ruleset.{Ruleset}

-- its lines as rules, the oldest first
abbrev pub rules_in : Ruleset → List Rule
rules_in x = rules_of (vec_items x.lines)

-- how many atoms it is over
abbrev pub atoms_in : Ruleset → ℕ
atoms_in x = vec_len x.index.woken
