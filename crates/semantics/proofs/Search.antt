-- The search finds exactly the plans, in listing order, and it ends.
use Rattle.std.proofs.Common.{◌≡◌, ℕ, zero, suc, ◌<◌, ◌≤◌, true, false, T, ◌⊎◌, List, [], ◌∷◌, ◌++◌, drop, Some, None, Option, sym, refl, ap, ◌∙◌, subst, ap₂, inl, inr, append-nil, arith}
use Rattle.std.specs.List.{AllByRecursion}
use Rattle.std.proofs.lemmas.Bool.{cases_eq, cases_Bool, both_ways}
use Rattle.semantics.specs.declared.Literal.{Literal}
use Rattle.semantics.specs.Sets.{has, ◌⊆◌, Canonical, AlikeBelow, Listed}
use Rattle.semantics.specs.Plans.{Program, WellFormed, Plan, is_plan, plans}
use Rattle.semantics.specs.Alternating.{Pair, Marks, marks_of, contradictory, narrowed, rounds, Last}
use Rattle.semantics.specs.Search.{absent, agrees, under, later, left, back, Free, work, BoundsUnder, Open, Finds, finished, refuted, met, chosen}
use Rattle.semantics.specs.Theorems.{SearchStepsKeepTheListing}
use Rattle.semantics.proofs.Booleans.{holds, fails}
use Rattle.semantics.proofs.Bytes.{has_below}
use Rattle.semantics.proofs.Members.{kept_all}
use Rattle.semantics.proofs.Narrowing.{rounds_end, reached_canonical, consistent}
use Rattle.semantics.proofs.Listing.{plans_listed, plan_tested, tested_plan}
use Rattle.semantics.proofs.Choices.{left_back, listed, passed, push_falls, back_falls}
use Rattle.semantics.proofs.Stacks.{rounds_bound, contradiction_empties, barred_empties, first_open_splits, open_unmarked, leaf_missed, leaf_taken, meeting_left, free_few, free_back}

abbrev FreeLeft : ℕ → Option (List Literal) → Type 0
FreeLeft n None = Unit {0}
FreeLeft n (Some cs) = Free n cs

free_left : (n : ℕ) (cs : List Literal) → Free n cs → FreeLeft n (back cs)
free_left n cs free = go (back cs) refl
  where
    go : (o : Option (List Literal)) → back cs ≡ o → FreeLeft n o
    go None e = tt
    go (Some cs') e = free_back n cs cs' e free

module _ (p : Program) (ok : WellFormed p) where
  still : (marks : Marks) {q : Pair} → Last p marks q → contradictory p q ≡ false → narrowed p marks q ≡ q
  still marks {q} l calm = elim l.final [ inl c ↦ absurd (both_ways (contradictory p q) calm c) | inr e ↦ e ]

  bound : (cs : List Literal) {q : Pair} → Last p (marks_of cs) q → BoundsUnder p cs q
  bound cs {q} l = rounds_bound p ok cs q l.reached

  module _ (xs : List (List ℕ)) (ls : Listed (Plan p) xs) where
    open_free : (cs : List Literal) {q : Pair} {a : ℕ} → BoundsUnder p cs q → Free p.atoms cs → Open p q a → Free p.atoms (absent a ∷ cs)
    open_free cs {q} {a} b free o = (o.below, open_unmarked p ok xs ls cs b a o.below o.unsure (holds (has q.possible a) o.possible), free)

    finds_left : {o : Option (List Literal)} {ys : List (List ℕ)} → Finds p o ys → FreeLeft p.atoms o → ys ≡ left xs o
    finds_left finished free = refl
    finds_left (refuted {cs} l c rest) free =
        finds_left rest (free_left p.atoms cs free) ∙ left_back xs cs ∙ ap (λ found. found ++ later cs xs) (sym (contradiction_empties p ok xs ls cs (bound cs l) c))
    finds_left (met {cs} {q} {ys} l calm high rest) free =
        ap₂ (λ found more. found ++ more) (sym (meeting_left p ok xs ls cs l.reached free calm (still (marks_of cs) l calm) high)) (finds_left rest (free_left p.atoms cs free) ∙ left_back xs cs)
    finds_left (chosen {cs} {q} {ys} {a} l calm o rest) free =
        finds_left rest (open_free cs (bound cs l) free o) ∙ sym (first_open_splits p ok xs ls cs (bound cs l) a o.first)

    finds_all : {ys : List (List ℕ)} → Finds p (Some []) ys → ys ≡ xs
    finds_all f = finds_left f tt ∙ append-nil (under [] xs) ∙ kept_all (agrees []) xs (every xs)
      where
        every : (zs : List (List ℕ)) → AllByRecursion (λ s. agrees [] s ≡ true) zs
        every [] = tt
        every (z ∷ zs) = (refl, every zs)

  first_open : (q : Pair) → q.sure ⊆ q.possible → (n : ℕ) → n ≤ p.atoms → ((a : ℕ) × Open p q a) ⊎ AlikeBelow n q.sure q.possible
  first_open q low zero l = inr (λ a k. absurd (omega arith))
  first_open q low (suc n) l = elim (first_open q low n (omega arith)) [ inl found ↦ inl found | inr alike ↦ go alike (cases_Bool (has q.sure n)) (cases_Bool (has q.possible n)) ]
    where
      more : AlikeBelow n q.sure q.possible → has q.sure n ≡ has q.possible n → AlikeBelow (suc n) q.sure q.possible
      more alike here a k = elim (cases_eq a n) [ inl e ↦ subst (λ i. has q.sure i ≡ has q.possible i) (sym e) here | inr other ↦ alike a (omega arith) ]

      go : AlikeBelow n q.sure q.possible → (has q.sure n ≡ true) ⊎ (has q.sure n ≡ false) → (has q.possible n ≡ true) ⊎ (has q.possible n ≡ false) →
          ((a : ℕ) × Open p q a) ⊎ AlikeBelow (suc n) q.sure q.possible
      go alike (inl e) (inl f) = inr (more alike (e ∙ sym f))
      go alike (inl e) (inr f) = absurd (fails (has q.possible n) f (low n (holds (has q.sure n) e)))
      go alike (inr e) (inl f) = inl (n, record { below = l; unsure = e; possible = f; first = alike })
      go alike (inr e) (inr f) = inr (more alike (e ∙ sym f))

  abbrev Ends : ℕ → Type 0
  Ends m = (cs : List Literal) → work p.atoms cs < m → Free p.atoms cs → (ys : List (List ℕ)) × Finds p (Some cs) ys

  goes_back : (m : ℕ) → Ends m → (cs : List Literal) → work p.atoms cs < suc m → Free p.atoms cs → (ys : List (List ℕ)) × Finds p (back cs) ys
  goes_back m ends cs l free = go (back cs) refl
    where
      go : (o : Option (List Literal)) → back cs ≡ o → (ys : List (List ℕ)) × Finds p o ys
      go None e = ([], finished)
      go (Some cs') e = ends cs' (omega (arith, back_falls p.atoms cs cs' e)) (free_back p.atoms cs cs' e free)

  goes_on : (m : ℕ) → Ends m → (cs : List Literal) → work p.atoms cs < suc m → Free p.atoms cs → (q : Pair) → Last p (marks_of cs) q → contradictory p q ≡ false → (ys : List (List ℕ)) × Finds p (Some cs) ys
  goes_on m ends cs l free q last calm =
      elim (first_open q (consistent p q canonical.0 calm) p.atoms (omega arith)) [
        | inl (a, o) ↦ (let new : Free p.atoms (absent a ∷ cs) = open_free (plans p) (plans_listed p ok) cs (bound cs last) free o in
            let rest = ends (absent a ∷ cs) (omega (arith, push_falls p.atoms (absent a) cs (free_few p.atoms (absent a ∷ cs) new))) new in
            (rest.0, chosen last calm o rest.1))
        | inr alike ↦ (let rest = goes_back m ends cs l free in
            (_, met last calm (λ a h. subst T (sym (alike a (has_below canonical.1 a h))) h) rest.1))
      ]
    where
      canonical : Canonical p.atoms q.sure × Canonical p.atoms q.possible
      canonical = reached_canonical p ok (marks_of cs) last.reached

  ends_by : (m : ℕ) → Ends m
  ends_by zero cs l free = absurd (omega arith)
  ends_by (suc m) cs l free =
      let end = rounds_end p ok (marks_of cs) in
      elim (cases_Bool (contradictory p (rounds p (marks_of cs) end.0))) [
        | inl c ↦ (let rest = goes_back m (ends_by m) cs l free in (rest.0, refuted end.2 c rest.1))
        | inr calm ↦ goes_on m (ends_by m) cs l free (rounds p (marks_of cs) end.0) end.2 calm
      ]

  pub search_ends : (ys : List (List ℕ)) × Finds p (Some []) ys
  search_ends = ends_by (suc (work p.atoms [])) [] (omega arith) tt

pub finds_listed : (p : Program) → WellFormed p → (xs : List (List ℕ)) → Finds p (Some []) xs → Listed (Plan p) xs
finds_listed p ok xs f = let l = plans_listed p ok in subst (Listed (Plan p)) (sym (finds_all p ok (plans p) l f)) l

-- one step of the search
pub search_step : SearchStepsKeepTheListing
search_step p ok xs ls k cs q here free b = record {
  refuted = λ c. skip (contradiction_empties p ok xs ls cs b c);
  barred = λ e. skip (barred_empties p ok xs ls cs b e);
  missed = λ high e. skip (leaf_missed p ok xs ls cs b high (λ plan. both_ways (is_plan p q.sure) e (plan_tested p ok q.sure plan)));
  found = λ calm high e. let step = listed xs k cs here q.sure (leaf_taken p ok xs ls cs b high free calm (tested_plan p ok q.sure b.canonical e)) in (step.0, step.1, next step.2);
  chosen = λ a o. let new : Free p.atoms (absent a ∷ cs) = open_free p ok xs ls cs b free o in
      (here ∙ first_open_splits p ok xs ls cs b a o.first, new, free_few p.atoms (absent a ∷ cs) new);
  free = λ cs' e. free_back p.atoms cs cs' e free;
}
  where
    next : {ys : List (List ℕ)} → ys ≡ later cs xs → ys ≡ left xs (back cs)
    next e = e ∙ sym (left_back xs cs)

    skip : under cs xs ≡ [] → drop k xs ≡ left xs (back cs)
    skip e = next (passed xs k cs here e)
