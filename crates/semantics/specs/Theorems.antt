-- What is proved of plans, their bounds and the search for them. Each type here whose name is a sentence is the contract of a function of this crate.
use Rattle.std.specs.Prelude.{◌≡◌, ℕ, ◌+◌, ◌<◌, ◌≤◌, Bool, true, false, T, ◌⊎◌, ◌↔◌, List, [], ◌∷◌, length, take, drop, Some, slice_index_or}
use Rattle.semantics.specs.declared.Literal.{Literal}
use Rattle.semantics.specs.Sets.{has, ◌⊆◌, Canonical, Before, First, Listed, all, subsets}
use Rattle.semantics.specs.Rules.{Rule, Least, least, rule_below}
use Rattle.semantics.specs.Plans.{Program, WellFormed, Plan, is_plan, plans, held}
use Rattle.semantics.specs.Alternating.{Pair, Marks, marks_of, unmarked, narrowed, contradictory, Reached, Agrees, Brackets, Narrower, room, rounds, Last}
use Rattle.semantics.specs.Search.{absent, todo, left, back, Free, work, BoundsUnder, surely_broken, Open, Finds}

-- the rounds reach the least model, and there is no other
pub record LeastModel (n : ℕ) (rs : List Rule) (by : List ℕ) (bare : ℕ → Bool) : Type 0 where
  pub reached : Least rs by bare (least rs by bare n)
  pub canonical : Canonical n (least rs by bare n)
  pub only : (s : List ℕ) → Canonical n s → Least rs by bare s → s ≡ least rs by bare n
  -- the reduct by a smaller set, with more bare atoms, has a larger least model
  pub monotone : (by' : List ℕ) (bare' : ℕ → Bool) → by' ⊆ by → ((a : ℕ) → T (bare a) → T (bare' a)) → least rs by bare n ⊆ least rs by' bare' n

abbrev pub RoundsReachTheLeastModel : Type 0
RoundsReachTheLeastModel = (n : ℕ) (rs : List Rule) (by : List ℕ) (bare : ℕ → Bool) → T (all (rule_below n) rs) → ((a : ℕ) → T (bare a) → a < n) → LeastModel n rs by bare

-- listing order is a strict total order, and in it `subsets` lists the canonical sets
pub record ListingOrder (n : ℕ) : Type 0 where
  pub irreflexive : (s : List ℕ) → Before s s → ⊥
  pub transitive : (s t u : List ℕ) → Before s t → Before t u → Before s u
  pub total : (s t : List ℕ) → Canonical n s → Canonical n t → (s ≡ t) ⊎ (Before s t ⊎ Before t s)
  pub listed : Listed (Canonical n) (subsets n)

abbrev pub SetsAreListedOnceInOrder : Type 0
SetsAreListedOnceInOrder = (n : ℕ) → ListingOrder n

-- `plans` lists the plans in listing order, and no other list does
pub record PlanList (p : Program) : Type 0 where
  pub test : (s : List ℕ) → Canonical p.atoms s → (is_plan p s ≡ true) ↔ Plan p s
  pub listed : Listed (Plan p) (plans p)
  pub only : (xs : List (List ℕ)) → Listed (Plan p) xs → xs ≡ plans p
  -- each plan has one place
  pub place : (s : List ℕ) → Plan p s → (k : ℕ) × (k < length (plans p)) × (slice_index_or (plans p) k [] ≡ s) × ((j : ℕ) → j < length (plans p) → slice_index_or (plans p) j [] ≡ s → j ≡ k)
  -- the beginnings of the list, and no other lists, are first plans
  pub beginnings : (k : ℕ) → First (Plan p) (take k (plans p))
  pub only_beginnings : (xs : List (List ℕ)) → First (Plan p) xs → xs ≡ take (length xs) (plans p)

abbrev pub PlansAreListedOnceInOrder : Type 0
PlansAreListedOnceInOrder = (p : Program) → WellFormed p → PlanList p

-- `held` counts the plans that have an atom
pub record Counts (p : Program) (a : ℕ) : Type 0 where
  pub counts : (xs : List (List ℕ)) → Listed (λ s. Plan p s × T (has s a)) xs → held (plans p) a ≡ length xs
  pub none : (held (plans p) a ≡ 0) ↔ ((s : List ℕ) → Plan p s → has s a ≡ false)
  pub every : (held (plans p) a ≡ length (plans p)) ↔ ((s : List ℕ) → Plan p s → has s a ≡ true)

abbrev pub HeldCountsThePlansWithAnAtom : Type 0
HeldCountsThePlansWithAnAtom = (p : Program) → WellFormed p → (a : ℕ) → Counts p a

-- a pair of the rounds has each plan that takes the marked sides between its bounds
abbrev pub BoundsHoldInEveryPlan : Type 0
BoundsHoldInEveryPlan = (p : Program) → WellFormed p → (marks : Marks) (q : Pair) → Reached p marks q → (s : List ℕ) → Plan p s → Agrees marks s → Brackets q s

abbrev pub AContradictionLeavesNoPlan : Type 0
AContradictionLeavesNoPlan = (p : Program) → WellFormed p → (marks : Marks) (q : Pair) → Reached p marks q → contradictory p q ≡ true → (s : List ℕ) → Plan p s → Agrees marks s → ⊥

abbrev pub NoMarksNoContradiction : Type 0
NoMarksNoContradiction = (p : Program) → WellFormed p → (q : Pair) → Reached p unmarked q → contradictory p q ≡ false

-- up to a contradiction, each round makes more sure and less possible, and takes some room unless it changes nothing
abbrev pub EachRoundNarrows : Type 0
EachRoundNarrows = (p : Program) → WellFormed p → (marks : Marks) (q : Pair) → Reached p marks q → contradictory p q ≡ false →
    Narrower q (narrowed p marks q) × ((narrowed p marks q ≡ q) ⊎ (room p (narrowed p marks q) < room p q))

-- at the latest after two rounds for each atom
abbrev pub RoundsEndAtOnePair : Type 0
RoundsEndAtOnePair = (p : Program) → WellFormed p → (marks : Marks) →
    ((k : ℕ) × (k ≤ p.atoms + p.atoms) × Last p marks (rounds p marks k)) × ((q r : Pair) → Last p marks q → Last p marks r → q ≡ r)

-- a search that has listed k plans, at a stack with any bounds q on the plans under it: what it lists next, and what is then left
pub record SearchStep (p : Program) (xs : List (List ℕ)) (k : ℕ) (cs : List Literal) (q : Pair) : Type 0 where
  pub refuted : contradictory p q ≡ true → drop k xs ≡ left xs (back cs)
  pub barred : surely_broken p.rules q ≡ true → drop k xs ≡ left xs (back cs)
  -- bounds that meet have one candidate, which is tested
  pub missed : q.possible ⊆ q.sure → is_plan p q.sure ≡ false → drop k xs ≡ left xs (back cs)
  pub found : contradictory p q ≡ false → q.possible ⊆ q.sure → is_plan p q.sure ≡ true →
      (k < length xs) × (slice_index_or xs k [] ≡ q.sure) × (drop (k + 1) xs ≡ left xs (back cs))
  pub chosen : (a : ℕ) → Open p q a → (drop k xs ≡ todo (absent a ∷ cs) xs) × Free p.atoms (absent a ∷ cs) × (length cs < p.atoms)
  pub free : (cs' : List Literal) → back cs ≡ Some cs' → Free p.atoms cs'

abbrev pub SearchStepsKeepTheListing : Type 0
SearchStepsKeepTheListing = (p : Program) → WellFormed p → (xs : List (List ℕ)) → Listed (Plan p) xs →
    (k : ℕ) (cs : List Literal) (q : Pair) → drop k xs ≡ todo cs xs → Free p.atoms cs → BoundsUnder p cs q → SearchStep p xs k cs q

-- every pair of the rounds under the chosen sides is such a pair
abbrev pub RoundsBoundTheSearch : Type 0
RoundsBoundTheSearch = (p : Program) → WellFormed p → (cs : List Literal) (q : Pair) → Reached p (marks_of cs) q → BoundsUnder p cs q

-- by a choice, and by a step back
abbrev pub SearchStepsLeaveLessWork : Type 0
SearchStepsLeaveLessWork = (n : ℕ) (cs : List Literal) →
    ((c : Literal) → length cs < n → work n (c ∷ cs) < work n cs) × ((cs' : List Literal) → back cs ≡ Some cs' → work n cs' < work n cs)

-- the search ends, with all the plans
abbrev pub SearchFindsEveryPlan : Type 0
SearchFindsEveryPlan = (p : Program) → WellFormed p → ((xs : List (List ℕ)) × Finds p (Some []) xs) × ((xs : List (List ℕ)) → Finds p (Some []) xs → Listed (Plan p) xs)
