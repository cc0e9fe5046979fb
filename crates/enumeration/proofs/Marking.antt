-- Marks as bytes, one choice after another.
use Rattle.std.proofs.Common.{◌≡◌, ℕ, ◌<◌, ◌≤◌, cond, ◌≢◌, List, [], ◌∷◌, length, get_or, set, replicate, Some, None, sym, refl, ap, ◌∙◌, subst, inl, inr, arith}
use mathlib.Core.Path.{fun_ext}
use Rattle.std.proofs.lemmas.List.{length-set, length-replicate, get_or-replicate, get_or-set_same, get_or-set_other, get_or_past}
use Rattle.std.proofs.lemmas.Bool.{cases_eq, cases_lt, eq-eqb, ne_eqb}
use Rattle.semantics.specs.declared.Literal.{Literal}
use Rattle.semantics.specs.Alternating.{marks_of, mark_in, marks_in}
use Rattle.semantics.specs.Search.{Free}
use Rattle.enumeration.specs.Marking.{Marked}

-- no choice marks nothing
pub marked_none : (n : ℕ) → Marked [] (replicate n 0)
marked_none n a l = ap mark_in (get_or-replicate n a 0 0 (omega (arith, length-replicate {A = ℕ} n 0)))

-- a newer choice writes its byte, if there is one
module _ (cs : List Literal) (c : Literal) (bytes : List ℕ) (marked : Marked cs bytes) where
  pub marked_more : (b : ℕ) → mark_in b ≡ Some c.side → Marked (c ∷ cs) (set bytes c.atom b)
  marked_more b e a l =
      let within : a < length bytes = omega (arith, length-set bytes c.atom b) in
      elim (cases_eq c.atom a) [
        | inl same ↦ subst (λ i. mark_in (get_or (set bytes c.atom b) i 0) ≡ marks_of (c ∷ cs) i) same
            (ap mark_in (get_or-set_same bytes c.atom b 0 (omega (arith, same))) ∙ e ∙ sym (ap (λ t. cond t (Some c.side) (marks_of cs c.atom)) (eq-eqb c.atom c.atom refl)))
        | inr other ↦ ap mark_in (get_or-set_other bytes c.atom a b 0 (λ k. other (sym k))) ∙ marked a within ∙ sym (ap (λ t. cond t (Some c.side) (marks_of cs a)) (ne_eqb c.atom a other))
      ]

  pub marked_past : length bytes ≤ c.atom → Marked (c ∷ cs) bytes
  marked_past past a l =
      let other : c.atom ≢ a = omega arith in
      marked a l ∙ sym (ap (λ t. cond t (Some c.side) (marks_of cs a)) (ne_eqb c.atom a other))

-- free choices say nothing of an atom past the last
free_past : (n : ℕ) (cs : List Literal) → Free n cs → (a : ℕ) → n ≤ a → marks_of cs a ≡ None
free_past n [] free a l = refl
free_past n (c ∷ cs) free a l =
    let below = free.0 in
    let other : c.atom ≢ a = omega arith in
    ap (λ t. cond t (Some c.side) (marks_of cs a)) (ne_eqb c.atom a other) ∙ free_past n cs free.2 a l

-- so the bytes have all their marks
pub marked_all : (n : ℕ) (cs : List Literal) (bytes : List ℕ) → length bytes ≡ n → Free n cs → Marked cs bytes → marks_in bytes ≡ marks_of cs
marked_all n cs bytes size free marked = fun_ext (λ a. elim (cases_lt a n) [
  | inl less ↦ marked a (omega (arith, less))
  | inr past ↦ ap mark_in (get_or_past bytes a 0 (omega (arith, past))) ∙ sym (free_past n cs free a past)
])
