-- A position is settled where it reads none of the unknown atoms.
use Rattle.std.proofs.Common.{◌≡◌, ℕ, zero, suc, Bool, true, false, cond, not, ◌&&◌, ◌||◌, List, [], ◌∷◌, ◌++◌, sym, refl, ap, ◌∙◌}
use mathlib.Core.Path.{fun_ext}
use Rattle.std.proofs.lemmas.List.{append-nil}
use Rattle.std.specs.List.{list_all}
use Rattle.std.proofs.Math.Bool.{or-true}
use Rattle.std.proofs.lemmas.List.Folds.{list_all-append}
use Rattle.semantics.specs.Sets.{each_below, tabled}
use Rattle.semantics.specs.Banks.{Meaning, some_output}
use Rattle.semantics.specs.Alternating.{Pair, known, surely, possibly}
use Rattle.bounds.specs.Rounds.{bank_alone}
use Rattle.bounds.specs.Unknown.{unknown_atoms, reads_none}

all_push : (f : ℕ → Bool) (xs : List ℕ) (b : Bool) (x : ℕ) → list_all f (xs ++ cond b [] (x ∷ [])) ≡ ((f x || b) && list_all f xs)
all_push f xs true x = ap (list_all f) (append-nil xs) ∙ ap (λ b. b && list_all f xs) (sym (or-true (f x)))
all_push f xs false x = list_all-append f xs (x ∷ []) ∙ swapped (list_all f xs) (f x)
  where
    swapped : (y z : Bool) → (y && (z && true)) ≡ ((z || false) && y)
    swapped true true = refl
    swapped true false = refl
    swapped false true = refl
    swapped false false = refl

settled_where : (m : Meaning) (q : Pair) (k n : ℕ) → reads_none m (unknown_atoms q n) k ≡ each_below n (λ a. not (m.reads k a) || known q a)
settled_where m q k zero = refl
settled_where m q k (suc n) =
    all_push (λ a. not (m.reads k a)) (unknown_atoms q n) (known q n) n
    ∙ ap (λ b. (not (m.reads k n) || known q n) && b) (settled_where m q k n)

-- so the queries that read only the unknown atoms find what is surely and possibly given
module _ (m : Meaning) (q : Pair) (n : ℕ) where
  pub surely_found : tabled (some_output m (λ k. reads_none m (unknown_atoms q n) k && m.given k q.sure)) 0 n ≡ tabled (surely (bank_alone m n) q) 0 n
  surely_found = ap (λ passes. tabled (some_output m passes) 0 n) (fun_ext (λ k. ap (λ b. b && m.given k q.sure) (settled_where m q k n)))

  pub possibly_found : tabled (some_output m (λ k. not (reads_none m (unknown_atoms q n) k) || m.given k q.sure)) 0 n ≡ tabled (possibly (bank_alone m n) q) 0 n
  possibly_found = ap (λ passes. tabled (some_output m passes) 0 n) (fun_ext (λ k. ap (λ b. not b || m.given k q.sure) (settled_where m q k n)))
