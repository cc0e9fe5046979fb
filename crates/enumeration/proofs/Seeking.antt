-- Where the search ends with no plan: there is none to come.
use Rattle.std.proofs.Common.{◌≡◌, ℕ, ◌≤◌, false, List, ◌∷◌, length, Some, None, Option, sym, ap, arith}
use Rattle.std.proofs.lemmas.List.{length-drop}
use Rattle.std.proofs.lemmas.Bool.{le-ltb}
use Rattle.semantics.specs.declared.Literal.{Literal}
use Rattle.semantics.specs.Plans.{Program, plans}
use Rattle.semantics.specs.Search.{absent, Seeks}
use Rattle.semantics.proofs.Stacks.{free_few}
use Rattle.enumeration.specs.Visits.{GoesOn}

module _ (p : Program) (node : Option (List Literal)) (cs : List Literal) (set : List ℕ) where
  -- no step back is left
  pub none_left : GoesOn p node None → Seeks p node cs set false
  none_left goes k ok here =
      let size = simp length-drop at (ap length (goes k ok here).rest) in
      record {
        more = sym (le-ltb k (length (plans p)) (omega arith));
        is_next = λ e. let z : ◌≡◌ {A = ℕ} 0 1 = cc in absurd (omega arith);
        leads_on = λ e. let z : ◌≡◌ {A = ℕ} 0 1 = cc in absurd (omega arith);
      }

  -- free choices never fill their room
  pub no_room : (a : ℕ) (held : List Literal) → p.atoms ≤ length held → GoesOn p node (Some (absent a ∷ held)) → Seeks p node cs set false
  no_room a held full goes k ok here = let few = free_few p.atoms (absent a ∷ held) (goes k ok here).free in absurd (omega arith)
