-- The two sets of the bounds.
use Rattle.std.specs.Prelude.{ℕ, length}
use Rattle.semantics.specs.Alternating.{Pair}
use Rattle.bounds.specs.declared.pair.Bounds.{Bounds}

-- as a pair of sets
abbrev pub pair_of : Bounds → Pair
pair_of b = record { sure = b.sure.now; possible = b.possible.now }

-- how many atoms they are over
abbrev pub atoms_of : Bounds → ℕ
atoms_of b = length b.sure.now
