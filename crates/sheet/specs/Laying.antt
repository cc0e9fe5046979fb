-- What a sheet is laid with.
use Rattle.std.specs.Prelude.{◌≡◌, ℕ, List, [], length, replicate, vec_items}
use Rattle.derivation.specs.Rulesets.{rules_in}
use Rattle.sheet.specs.declared.parts.Parts.{Parts}

-- these levels, no lines, a tally of 0 for each atom and no choice open
pub record Parted (levels : List ℕ) (p : Parts) : Type 0 where
  pub levels_are : vec_items p.levels ≡ levels
  pub no_rules : rules_in p.rules ≡ []
  pub tallies_are : vec_items p.tallies ≡ replicate (length levels) 0
  pub none_open : p.choices.depth ≡ 0
