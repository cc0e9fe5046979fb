-- From what the bounds say of a node to what the search does there.
use Rattle.std.proofs.Common.{◌≡◌, ℕ, true, false, List, ◌∷◌, length, drop, Some, None, Option, sym, refl, ◌∙◌, subst, inl, inr}
use Rattle.std.proofs.lemmas.Bool.{lt-ltb}
use Rattle.semantics.specs.declared.Literal.{Literal}
use Rattle.semantics.specs.Plans.{Program, WellFormed, is_plan, plans}
use Rattle.semantics.specs.Alternating.{Pair, Marks, marks_in, Last}
use Rattle.semantics.specs.Search.{absent, left, back, Free, FreeNode, BoundsUnder, LeadsTo, Sought}
use Rattle.semantics.specs.Theorems.{SearchStep}
use Rattle.semantics.proofs.Listing.{plans_listed}
use Rattle.semantics.proofs.Search.{search_step}
use Rattle.semantics.proofs.Stacks.{rounds_bound, free_back}
use Rattle.enumeration.specs.declared.node.Node.TheVariants.{Refuted, Meets, Branches}
use Rattle.enumeration.specs.Marking.{Marked}
use Rattle.enumeration.specs.Nodes.{Tells}
use Rattle.enumeration.specs.Visits.{GoesOn}
use Rattle.enumeration.proofs.Marking.{marked_all}

-- a step back keeps choices free
free_node : (n : ℕ) (cs : List Literal) → Free n cs → FreeNode n (back cs)
free_node n cs free = go (back cs) refl
  where
    go : (o : Option (List Literal)) → back cs ≡ o → FreeNode n o
    go None e = tt
    go (Some cs') e = free_back n cs cs' e free

-- the node of the choices, with the pair that the rounds end at under their marks
module _ (p : Program) (cs : List Literal) (bytes : List ℕ) (q : Pair) (size : length bytes ≡ p.atoms) (marked : Marked cs bytes) (last : WellFormed p → Last p (marks_in bytes) q) where
  bounds : WellFormed p → Free p.atoms cs → BoundsUnder p cs q
  bounds ok free = rounds_bound p ok cs q (subst (λ (m : Marks). Last p m q) (marked_all p.atoms cs bytes size free marked) (last ok)).reached

  step : (k : ℕ) → WellFormed p → LeadsTo p k (Some cs) → SearchStep p (plans p) k cs q
  step k ok here = search_step p ok (plans p) (plans_listed p ok) k cs q here.rest here.free (bounds ok here.free)

  passed : (k : ℕ) → LeadsTo p k (Some cs) → drop k (plans p) ≡ left (plans p) (back cs) → LeadsTo p k (back cs)
  passed k here e = record { rest = e; free = free_node p.atoms cs here.free }

  pub refuted_passes : Tells p q Refuted → GoesOn p (Some cs) (back cs)
  refuted_passes (inl clash) k ok here = passed k here ((step k ok here).refuted clash)
  refuted_passes (inr bar) k ok here = passed k here ((step k ok here).barred bar)

  pub branch_goes_on : (a : ℕ) → Tells p q (Branches a) → GoesOn p (Some cs) (Some (absent a ∷ cs))
  branch_goes_on a tells k ok here = let chosen = (step k ok here).chosen a tells.1 in record { rest = chosen.0; free = chosen.1 }

  pub miss_passes : Tells p q Meets → is_plan p q.sure ≡ false → GoesOn p (Some cs) (back cs)
  miss_passes tells miss k ok here = passed k here ((step k ok here).missed tells.1 miss)

  pub leaf_found : Tells p q Meets → is_plan p q.sure ≡ true → (set : List ℕ) → set ≡ q.sure → (k : ℕ) → WellFormed p → LeadsTo p k (Some cs) → Sought p k cs set true
  leaf_found tells hit set same k ok here =
      let found = (step k ok here).found tells.0.calm tells.1 hit in
      record {
        more = sym (lt-ltb k (length (plans p)) found.0);
        is_next = λ _. same ∙ sym found.1;
        leads_on = λ _. record { rest = found.2; free = free_node p.atoms cs here.free };
      }
