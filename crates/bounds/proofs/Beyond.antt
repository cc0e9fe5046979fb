-- What the lowest atom of one set beyond another tells of the two.
use Rattle.std.proofs.Common.{◌≡◌, ℕ, ◌<◌, false, not, T, List, length, is_some, Some, None, Option, sym}
use lib.Dec.{not_T, T_not}
use Rattle.std.proofs.lemmas.Bool.{true≢false}
use Rattle.semantics.specs.Sets.{has, some_below, ◌⊆◌}
use Rattle.semantics.specs.Alternating.{Pair, clashes}
use Rattle.semantics.proofs.Booleans.{true_from, false_from, holds, fails, and_from, and_left, and_right, some_from, some_found}
use Rattle.bounds.specs.Beyond.{FirstBeyond}

module _ (q : Pair) where
  calm : (n : ℕ) → q.sure ⊆ q.possible → some_below n (clashes q) ≡ false
  calm n within = false_from (some_below n (clashes q)) (λ c. refuted (some_found (clashes q) n c))
    where
      refuted : (a : ℕ) × (a < n) × T (clashes q a) → ⊥
      refuted (a, l, h) = T_not (has q.possible a) (and_right (has q.sure a) (not (has q.possible a)) h) (within a (and_left (has q.sure a) (not (has q.possible a)) h))

  -- a sure atom that is not possible is a clash
  pub clash_found : (o : Option ℕ) → FirstBeyond q.sure q.possible o → is_some o ≡ some_below (length q.sure) (clashes q)
  clash_found None within = sym (calm (length q.sure) within)
  clash_found (Some a) h =
      let clash = and_from (has q.sure a) (not (has q.possible a)) (holds (has q.sure a) h.member) (not_T (has q.possible a) (fails (has q.possible a) h.beyond)) in
      sym (true_from (some_below (length q.sure) (clashes q)) (some_from (clashes q) (length q.sure) a h.below clash))

-- where no atom lies beyond, every atom is one of the other set
pub none_beyond : (s t : List ℕ) (o : Option ℕ) → FirstBeyond s t o → is_some o ≡ false → s ⊆ t
none_beyond s t None h e = h
none_beyond s t (Some a) h e = absurd (true≢false e)
