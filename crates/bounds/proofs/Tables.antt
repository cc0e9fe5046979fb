-- Sets written from a test: when two are one, and what one more atom makes of one.
use Rattle.std.proofs.Common.{◌≡◌, ℕ, zero, suc, ◌<◌, Bool, false, ◌||◌, T, eqb, ◌∷◌, List, length, set, replicate, sym, refl, ap, ◌∙◌, inl, inr, arith, eqb→eq}
use Rattle.std.proofs.lemmas.Bool.{eq-eqb}
use Rattle.semantics.specs.Sets.{has, tabled}
use Rattle.semantics.proofs.Booleans.{holds, same_tests, or_left, or_right, or_cases}
use Rattle.semantics.proofs.Bytes.{has-tabled, tabled_canonical, tabled_has, tabled_passes, set_canonical, same_canonical, has-set, set_cases, set_more}

-- tests that agree below n write one set
pub tabled_alike : (f g : ℕ → Bool) (n : ℕ) → ((a : ℕ) → a < n → f a ≡ g a) → tabled f 0 n ≡ tabled g 0 n
tabled_alike f g n alike = same_canonical (tabled_canonical f n) (tabled_canonical g n) (λ a l. has-tabled f n a l ∙ alike a l ∙ sym (has-tabled g n a l))

pub tabled_none : (i n : ℕ) → replicate n 0 ≡ tabled (λ a. false) i n
tabled_none i zero = refl
tabled_none i (suc n) = ap (λ s. 0 ∷ s) (tabled_none (suc i) n)

pub tabled_size : (f : ℕ → Bool) (n : ℕ) (s : List ℕ) → s ≡ tabled f 0 n → length s ≡ n
tabled_size f n s e = ap length e ∙ (tabled_canonical f n).size

-- an atom put into such a set passes the test too
pub tabled_set : (f : ℕ → Bool) (n a : ℕ) → set (tabled f 0 n) a 1 ≡ tabled (λ b. eqb a b || f b) 0 n
tabled_set f n a =
    same_canonical (set_canonical (tabled_canonical f n) a 1 (omega arith)) (tabled_canonical (λ b. eqb a b || f b) n)
    (λ b l. same_tests (has (set (tabled f 0 n) a 1) b) (has (tabled (λ b. eqb a b || f b) 0 n) b) (into b l) (out b l))
  where
    into : (b : ℕ) → b < n → T (has (set (tabled f 0 n) a 1) b) → T (has (tabled (λ b. eqb a b || f b) 0 n) b)
    into b l h =
        tabled_has (λ b. eqb a b || f b) n b l
        (elim (set_cases (tabled f 0 n) a b h) [
          | inl e ↦ or_left (eqb a b) (f b) (holds (eqb a b) (eq-eqb a b (sym e)))
          | inr t ↦ or_right (eqb a b) (f b) (tabled_passes f n b t)
        ])

    out : (b : ℕ) → b < n → T (has (tabled (λ b. eqb a b || f b) 0 n) b) → T (has (set (tabled f 0 n) a 1) b)
    out b l h =
        elim (or_cases (eqb a b) (f b) (tabled_passes (λ b. eqb a b || f b) n b h)) [
          | inl t ↦ let e : a ≡ b = eqb→eq a b t in rw e (has-set (tabled f 0 n) b (omega (arith, (tabled_canonical f n).size)))
          | inr t ↦ set_more (tabled f 0 n) a b (tabled_has f n b l t)
        ]
