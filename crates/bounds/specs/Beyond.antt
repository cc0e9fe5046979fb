-- Atoms of one set that are not in another.
use Rattle.std.specs.Prelude.{◌≡◌, ℕ, ◌<◌, true, false, T, List, length, Some, None, Option}
use Rattle.semantics.specs.Sets.{has, ◌⊆◌}

-- every atom of s below n is one of t
abbrev pub WithinBelow : ℕ → List ℕ → List ℕ → Type 0
WithinBelow n s t = (a : ℕ) → a < n → T (has s a) → T (has t a)

-- the lowest atom of s that is not one of t
pub record LowestBeyond (s t : List ℕ) (a : ℕ) : Type 0 where
  pub below : a < length s
  pub member : has s a ≡ true
  pub beyond : has t a ≡ false
  pub first : WithinBelow a s t

abbrev pub FirstBeyond : List ℕ → List ℕ → Option ℕ → Type 0
FirstBeyond s t None = s ⊆ t
FirstBeyond s t (Some a) = LowestBeyond s t a
