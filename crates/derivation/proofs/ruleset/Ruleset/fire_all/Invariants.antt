use Rattle.std.proofs.Common.{◌≡◌, ℕ, ◌+◌, List, length, take}
use Rattle.derivation.specs.Rulesets.{rules_in}
use Rattle.derivation.specs.Worklist.{absent, Underway, From}
use Rattle.derivation.proofs.ruleset.Ruleset.fire_all.Given as goal

abbrev pub invariant-loop-line : goal.invariant-loop-line
invariant-loop-line l =
    (length l.pending.entries.now ≡ length l.initial.pending.entries.now) ×
    (l.pending.len + absent l.model ≡ l.initial.pending.len + absent l.initial.model) ×
    ((bare : List ℕ) → Underway (rules_in l.self) l.by bare (From 0) l.initial.model (take l.initial.pending.len l.initial.pending.entries.now) →
    Underway (rules_in l.self) l.by bare (From l.line-index) l.model (take l.pending.len l.pending.entries.now))
