-- How a round ends, and how a position of the bank stands between the bounds.
use Rattle.std.specs.Prelude.{ℕ, Bool, cond, ◌&&◌}
use Rattle.semantics.specs.Sets.{same, some_below}
use Rattle.semantics.specs.Alternating.{Pair, clashes}
use Rattle.bounds.specs.declared.bank.Standing.{Standing}
use Rattle.bounds.specs.declared.bank.Standing.TheVariants.{Sure, Open, Never}
use Rattle.bounds.specs.declared.round.RoundEnd.{RoundEnd}
use Rattle.bounds.specs.declared.round.RoundEnd.TheVariants.{Contradiction, Settled, GoingOn}

-- a position that is not settled is open, and a settled one is given at every set between the bounds or at none
abbrev pub standing_of : Bool → Bool → Standing
standing_of settled given = cond settled (cond given Sure Never) Open

-- a round ends in a contradiction, or it changes nothing, or rounds go on
abbrev pub ending : ℕ → Pair → Pair → RoundEnd
ending n before after =
    cond (some_below n (clashes after)) Contradiction (cond (same before.sure after.sure && same before.possible after.possible) Settled GoingOn)
