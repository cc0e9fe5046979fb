-- The atoms of those positions below k that pass a test, as a set that is filled position by position.
use Rattle.std.proofs.Common.{◌≡◌, ℕ, ◌+◌, ◌<◌, ◌≤◌, Bool, true, false, ◌&&◌, ◌||◌, eqb, List, set, sym, refl, ap, ◌∙◌, add-one, arith}
use Rattle.std.proofs.lemmas.Bool.{and_left, and_right, ne_eqb}
use Rattle.semantics.specs.Sets.{tabled, some_below}
use Rattle.semantics.specs.Banks.{Meaning}
use Rattle.bounds.proofs.Tables.{tabled_alike, tabled_set}

abbrev pub found : Meaning → (ℕ → Bool) → ℕ → ℕ → List ℕ
found m passes n k = tabled (λ a. some_below k (λ p. eqb (m.atom p) a && passes p)) 0 n

and_true : (x y : Bool) → y ≡ true → (x && y) ≡ x
and_true true y e = e
and_true false y e = refl

module _ (m : Meaning) (passes : ℕ → Bool) (n k : ℕ) where
  pub found_passed : passes k ≡ true → found m passes n (k + 1) ≡ set (found m passes n k) (m.atom k) 1
  found_passed e = rw add-one (sym (tabled_set (λ a. some_below k (λ p. eqb (m.atom p) a && passes p)) n (m.atom k) ∙ tabled_alike _ _ n same))
    where
      same : (a : ℕ) → a < n → (eqb (m.atom k) a || some_below k (λ p. eqb (m.atom p) a && passes p)) ≡ ((eqb (m.atom k) a && passes k) || some_below k (λ p. eqb (m.atom p) a && passes p))
      same a l = ap (λ b. b || some_below k (λ p. eqb (m.atom p) a && passes p)) (sym (and_true (eqb (m.atom k) a) (passes k) e))

  pub found_failed : passes k ≡ false → found m passes n (k + 1) ≡ found m passes n k
  found_failed e = rw add-one (tabled_alike _ _ n same)
    where
      same : (a : ℕ) → a < n → ((eqb (m.atom k) a && passes k) || some_below k (λ p. eqb (m.atom p) a && passes p)) ≡ some_below k (λ p. eqb (m.atom p) a && passes p)
      same a l = ap (λ b. b || some_below k (λ p. eqb (m.atom p) a && passes p)) (and_right (eqb (m.atom k) a) (passes k) e)

  pub found_past : n ≤ m.atom k → found m passes n (k + 1) ≡ found m passes n k
  found_past past = rw add-one (tabled_alike _ _ n same)
    where
      same : (a : ℕ) → a < n → ((eqb (m.atom k) a && passes k) || some_below k (λ p. eqb (m.atom p) a && passes p)) ≡ some_below k (λ p. eqb (m.atom p) a && passes p)
      same a l = ap (λ b. b || some_below k (λ p. eqb (m.atom p) a && passes p)) (and_left (eqb (m.atom k) a) (passes k) (ne_eqb (m.atom k) a (λ e. omega arith)))
