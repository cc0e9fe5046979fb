-- A search through a listing of sets: a stack of choices, newest first, each an atom with the side that it is held to.
-- Absence is tried before presence.
use Rattle.std.specs.Prelude.{◌≡◌, ℕ, zero, suc, ◌+◌, ◌-◌, ◌<◌, Bool, true, false, cond, T, List, [], ◌∷◌, ◌++◌, length, drop, Some, None, filter, Option, nat_lt, slice_index_or}
use Rattle.semantics.specs.declared.Side.{Side}
use Rattle.semantics.specs.declared.Side.TheVariants.{Present, Absent}
use Rattle.semantics.specs.declared.Literal.{Literal}
use Rattle.semantics.specs.Sets.{has, ◌⊆◌, Canonical, AlikeBelow}
use Rattle.semantics.specs.Rules.{Rule, body_holds, bar_holds, broken}
use Rattle.semantics.specs.Plans.{Program, WellFormed, Plan, plans}
use Rattle.semantics.specs.Alternating.{Pair, marks_of, is_present, is_absent, Brackets, contradictory, Last}

abbrev pub present : ℕ → Literal
present a = record { atom = a; side = Present }

abbrev pub absent : ℕ → Literal
absent a = record { atom = a; side = Absent }

-- the set takes every chosen side
abbrev pub agrees : List Literal → List ℕ → Bool
agrees cs s = body_holds s s cs

abbrev pub under : List Literal → List (List ℕ) → List (List ℕ)
under cs xs = filter (agrees cs) xs

-- what a choice leaves for later: the sets with its atom, where it was made absent
abbrev pub put_off : Side → ℕ → List Literal → List (List ℕ) → List (List ℕ)
put_off Present a cs xs = []
put_off Absent a cs xs = under (present a ∷ cs) xs

abbrev pub later : List Literal → List (List ℕ) → List (List ℕ)
later [] xs = []
later (c ∷ cs) xs = put_off c.side c.atom cs xs ++ later cs xs

-- the sets that the search has yet to come to, in order
abbrev pub todo : List Literal → List (List ℕ) → List (List ℕ)
todo cs xs = under cs xs ++ later cs xs

-- and after a step back, if there is one
abbrev pub left : List (List ℕ) → Option (List Literal) → List (List ℕ)
left xs None = []
left xs (Some cs) = todo cs xs

-- the newest absent atom is made present, and what was chosen after it is dropped
abbrev pub turn : Side → ℕ → List Literal → Option (List Literal) → Option (List Literal)
turn Present a cs below = below
turn Absent a cs below = Some (present a ∷ cs)

abbrev pub back : List Literal → Option (List Literal)
back [] = None
back (c ∷ cs) = turn c.side c.atom cs (back cs)

-- every choice is of an atom below n that was free before
abbrev pub Free : ℕ → List Literal → Type 0
Free n [] = Unit {0}
Free n (c ∷ cs) = (c.atom < n) × (marks_of cs c.atom ≡ None) × Free n cs

-- a bound on the steps left: the nodes of the full tree over what is not chosen, here and under each choice put off
abbrev pub full : ℕ → ℕ
full zero = 1
full (suc k) = suc (full k + full k)

abbrev pub waiting_of : ℕ → Side → List Literal → ℕ
waiting_of n Present cs = 0
waiting_of n Absent cs = full (n - suc (length cs))

abbrev pub waiting : ℕ → List Literal → ℕ
waiting n [] = 0
waiting n (c ∷ cs) = waiting_of n c.side cs + waiting n cs

abbrev pub work : ℕ → List Literal → ℕ
work n cs = full (n - length cs) + waiting n cs

-- bounds on the plans that take the chosen sides: any pair that has each of them between its sets, and that settles every choice
pub record BoundsUnder (p : Program) (cs : List Literal) (q : Pair) : Type 0 where
  pub canonical : Canonical p.atoms q.sure
  pub sound : (s : List ℕ) → Plan p s → T (agrees cs s) → Brackets q s
  pub settles : (a : ℕ) → a < p.atoms → (T (is_present (marks_of cs a)) → T (has q.sure a)) × (T (is_absent (marks_of cs a)) → has q.possible a ≡ false)

-- some bar has its plain atoms among the sure ones, and its negated atoms are none of the possible ones
abbrev pub surely_broken : List Rule → Pair → Bool
surely_broken rs q = bar_holds rs q.sure q.possible

-- a is the first atom that is possible and not sure
pub record Open (p : Program) (q : Pair) (a : ℕ) : Type 0 where
  pub below : a < p.atoms
  pub unsure : has q.sure a ≡ false
  pub possible : has q.possible a ≡ true
  pub first : AlikeBelow a q.sure q.possible

-- a node of the search: its choices, or none once there is no step back
abbrev pub FreeNode : ℕ → Option (List Literal) → Type 0
FreeNode n None = Unit {0}
FreeNode n (Some cs) = Free n cs

-- from the node on the search comes to all plans but the first k, in order
pub record LeadsTo (p : Program) (k : ℕ) (node : Option (List Literal)) : Type 0 where
  pub rest : drop k (plans p) ≡ left (plans p) node
  pub free : FreeNode p.atoms node

-- from such a node the search finds plan number k, counted from 0, if there is one, at choices from which a step back leads to the others
pub record Sought (p : Program) (k : ℕ) (cs : List Literal) (set : List ℕ) (found : Bool) : Type 0 where
  pub more : found ≡ nat_lt k (length (plans p))
  pub is_next : found ≡ true → set ≡ slice_index_or (plans p) k []
  pub leads_on : found ≡ true → LeadsTo p (k + 1) (back cs)

abbrev pub Seeks : Program → Option (List Literal) → List Literal → List ℕ → Bool → Type 0
Seeks p node cs set found = (k : ℕ) → WellFormed p → LeadsTo p k node → Sought p k cs set found

-- what the search finds from a stack on, until there is no step back: nothing at a contradiction,
-- the set of bounds that meet unless it breaks a bar, and else what it finds with the first open atom made absent
pub data Finds (p : Program) : Option (List Literal) → List (List ℕ) → Type 0 where
  finished : Finds p None []
  refuted : {cs : List Literal} {q : Pair} {ys : List (List ℕ)} → Last p (marks_of cs) q → contradictory p q ≡ true → Finds p (back cs) ys → Finds p (Some cs) ys
  met : {cs : List Literal} {q : Pair} {ys : List (List ℕ)} → Last p (marks_of cs) q → contradictory p q ≡ false → q.possible ⊆ q.sure →
      Finds p (back cs) ys → Finds p (Some cs) (cond (broken p.rules q.sure) [] (q.sure ∷ []) ++ ys)
  chosen : {cs : List Literal} {q : Pair} {ys : List (List ℕ)} {a : ℕ} → Last p (marks_of cs) q → contradictory p q ≡ false → Open p q a →
      Finds p (Some (absent a ∷ cs)) ys → Finds p (Some cs) ys
