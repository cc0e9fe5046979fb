-- The test for the same bytes decides it.
use Rattle.std.proofs.Common.{◌≡◌, ℕ, List, Decides, refl}
use Rattle.std.proofs.lemmas.Slice.Eq.{compares_Decides}
use Rattle.semantics.specs.Sets.{same}

pub same_decides : (xs ys : List ℕ) → Decides (same xs ys) (xs ≡ ys)
same_decides = compares_Decides same (record { empty = refl; shorter = λ y ys. refl; longer = λ x xs. refl; heads = λ x y xs ys. refl })
