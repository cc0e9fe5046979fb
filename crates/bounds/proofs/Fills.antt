-- A loop that writes one byte of a set in each turn.
use Rattle.std.proofs.Common.{◌≡◌, ℕ, ◌+◌, ◌<◌, ◌≤◌, Bool, eqb, ◌≢◌, List, length, get_or, set, sym, ap, ◌∙◌, inl, inr, arith}
use Rattle.std.proofs.lemmas.List.Edits.{fill_by_more}
use Rattle.std.proofs.lemmas.List.{get_or_past, get_or-set_other}
use Rattle.std.proofs.lemmas.Bool.{cases_lt}
use Rattle.semantics.specs.Sets.{tabled, Canonical}
use Rattle.semantics.proofs.Bytes.{bit, bit_small, tabled_canonical, same_canonical}
use Rattle.semantics.proofs.Bytes.{has-tabled, bit_test}

-- the bytes below i are those of the test, and the others are as they were
abbrev pub Filled : (ℕ → Bool) → ℕ → List ℕ → Type 0
Filled f i s = (k : ℕ) → k < i → get_or s k 0 ≡ bit (f k)

abbrev pub Kept : ℕ → List ℕ → List ℕ → Type 0
Kept i old s = (k : ℕ) → i ≤ k → get_or s k 0 ≡ get_or old k 0

pub filled_more : (f : ℕ → Bool) (s : List ℕ) (i v : ℕ) → i < length s → v ≡ bit (f i) → Filled f i s → Filled f (i + 1) (set s i v)
filled_more f s i v l e h = rw e (fill_by_more (λ k. bit (f k)) s i 0 l h)

pub kept_more : (old s : List ℕ) (i v : ℕ) → Kept i old s → Kept (i + 1) old (set s i v)
kept_more old s i v h k l = let other : k ≢ i = omega arith in get_or-set_other s i k v 0 other ∙ h k (omega arith)

pub filled_all : (f : ℕ → Bool) (s : List ℕ) (n i : ℕ) → length s ≡ n → n ≤ i → Filled f i s → s ≡ tabled f 0 n
filled_all f s n i e l h = same_canonical canonical (tabled_canonical f n) (λ a b. ap (λ x. eqb x 1) (h a (omega arith)) ∙ bit_test (f a) ∙ sym (has-tabled f n a b))
  where
    canonical : Canonical n s
    canonical = record {
      size = e;
      bytes = λ a. elim (cases_lt a n) [
        | inl b ↦ rw (h a (omega arith)) (bit_small (f a))
        | inr b ↦ rw (get_or_past s a 0 (omega arith)) (omega arith)
      ];
    }
