-- What a visit to a node of the enumeration comes to.
use Rattle.std.specs.Prelude.{ℕ, Bool, true, false, List, ◌∷◌, Some, Option}
use Rattle.semantics.specs.declared.Literal.{Literal}
use Rattle.semantics.specs.Plans.{Program, WellFormed}
use Rattle.semantics.specs.Search.{absent, back, LeadsTo, Sought}
use Rattle.enumeration.specs.declared.visit.Outcome.{Outcome}
use Rattle.enumeration.specs.declared.visit.Outcome.TheVariants.{Found, Passed, Opens}

abbrev pub is_found : Outcome → Bool
is_found Found = true
is_found Passed = false
is_found (Opens a) = false

-- the plans that one node leads to are those that the other does
abbrev pub GoesOn : Program → Option (List Literal) → Option (List Literal) → Type 0
GoesOn p node next = (k : ℕ) → WellFormed p → LeadsTo p k node → LeadsTo p k next

-- the node's one plan is found, or nothing is under it and the enumeration steps back, or it goes on with an atom held absent
abbrev pub Visited : Program → List Literal → List ℕ → Outcome → Type 0
Visited p cs set Found = (k : ℕ) → WellFormed p → LeadsTo p k (Some cs) → Sought p k cs set true
Visited p cs set Passed = GoesOn p (Some cs) (back cs)
Visited p cs set (Opens a) = GoesOn p (Some cs) (Some (absent a ∷ cs))
