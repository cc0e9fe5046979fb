-- Bounds on all plans: a set L of sure atoms and a set U of possible ones, narrowed in rounds.
use Rattle.std.specs.Prelude.{◌≡◌, ℕ, zero, suc, ◌+◌, Bool, true, false, cond, not, ◌&&◌, ◌||◌, T, ◌⊎◌, List, [], ◌∷◌, Some, None, Option, ◌==◌, nat_lt, slice_index}
use Rattle.semantics.specs.declared.Side.{Side}
use Rattle.semantics.specs.declared.Side.TheVariants.{Present, Absent}
use Rattle.semantics.specs.declared.Literal.{Literal}
use Rattle.semantics.specs.Sets.{has, ◌⊆◌, tabled, each_below, some_below, count_below}
use Rattle.semantics.specs.Rules.{least}
use Rattle.semantics.specs.Banks.{some_output}
use Rattle.semantics.specs.Plans.{Program}

pub record Pair : Type 0 where
  pub sure : List ℕ
  pub possible : List ℕ

-- what is supposed of the atoms: the side that each is held to, if any
abbrev pub Marks : Type 0
Marks = ℕ → Option Side

-- the marks that literals make, that none make, and that one makes
abbrev pub marks_of : List Literal → Marks
marks_of [] a = None
marks_of (l ∷ ls) a = cond (l.atom == a) (Some l.side) (marks_of ls a)

abbrev pub unmarked : Marks
unmarked = marks_of []

abbrev pub one_mark : ℕ → Side → Marks
one_mark a side = marks_of (record { atom = a; side = side } ∷ [])

-- marks as bytes: 1 holds an atom present, 2 holds it absent, and any other byte says nothing
abbrev pub mark_in : ℕ → Option Side
mark_in b = cond (b == 1) (Some Present) (cond (b == 2) (Some Absent) None)

abbrev pub marks_in : List ℕ → Marks
marks_in bytes a = mark_in (slice_index bytes a)

abbrev pub is_present : Option Side → Bool
is_present None = false
is_present (Some Present) = true
is_present (Some Absent) = false

abbrev pub is_absent : Option Side → Bool
is_absent None = false
is_absent (Some Present) = false
is_absent (Some Absent) = true

-- an atom is known where it is in L or outside U, and a position is settled where each atom that it reads is known
abbrev pub known : Pair → ℕ → Bool
known q a = has q.sure a || not (has q.possible a)

abbrev pub settled : Program → Pair → ℕ → Bool
settled p q k = each_below p.atoms (λ a. not (p.bank.reads k a) || known q a)

abbrev pub sure_at : Program → Pair → ℕ → Bool
sure_at p q k = settled p q k && p.bank.given k q.sure

abbrev pub possible_at : Program → Pair → ℕ → Bool
possible_at p q k = not (settled p q k) || p.bank.given k q.sure

abbrev pub surely : Program → Pair → ℕ → Bool
surely p q = some_output p.bank (sure_at p q)

abbrev pub possibly : Program → Pair → ℕ → Bool
possibly p q = some_output p.bank (possible_at p q)

-- the bare atoms of the new L, and the new U before the marks bar some of it
abbrev pub surely_or_held : Program → Marks → Pair → ℕ → Bool
surely_or_held p marks q a = surely p q a || (nat_lt a p.atoms && is_present (marks a))

abbrev pub reachable : Program → Pair → List ℕ
reachable p q = least p.rules q.sure (possibly p q) p.atoms

abbrev pub allowed : Program → Marks → Pair → ℕ → Bool
allowed p marks q a = has (reachable p q) a && not (is_absent (marks a))

-- both sets anew from the old pair
abbrev pub narrowed : Program → Marks → Pair → Pair
narrowed p marks q = record {
  sure = least p.rules q.possible (surely_or_held p marks q) p.atoms;
  possible = tabled (allowed p marks q) 0 p.atoms;
}

abbrev pub widest : Program → Marks → Pair
widest p marks = record {
  sure = tabled (λ a. is_present (marks a)) 0 p.atoms;
  possible = tabled (λ a. not (is_absent (marks a))) 0 p.atoms;
}

-- some atom is sure and not possible
abbrev pub clashes : Pair → ℕ → Bool
clashes q a = has q.sure a && not (has q.possible a)

abbrev pub contradictory : Program → Pair → Bool
contradictory p q = some_below p.atoms (clashes q)

-- q comes from the widest pair by rounds, no pair before it contradictory
pub data Reached (p : Program) (marks : Marks) : Pair → Type 0 where
  start : Reached p marks (widest p marks)
  round : {q : Pair} → contradictory p q ≡ false → Reached p marks q → Reached p marks (narrowed p marks q)

-- a plan takes every supposed side
abbrev pub Agrees : Marks → List ℕ → Type 0
Agrees marks s = (a : ℕ) → (T (is_present (marks a)) → T (has s a)) × (T (is_absent (marks a)) → has s a ≡ false)

-- s has every sure atom, and only possible ones
pub record Brackets (q : Pair) (s : List ℕ) : Type 0 where
  pub low : q.sure ⊆ s
  pub high : s ⊆ q.possible

-- every sure atom of q is sure in r, and every possible one of r possible in q
pub record Narrower (q r : Pair) : Type 0 where
  pub more_sure : q.sure ⊆ r.sure
  pub less_possible : r.possible ⊆ q.possible

-- how far a pair can still be narrowed
abbrev pub room : Program → Pair → ℕ
room p q = count_below p.atoms (λ a. not (has q.sure a)) + count_below p.atoms (has q.possible)

-- the pair after k rounds
abbrev pub rounds : Program → Marks → ℕ → Pair
rounds p marks zero = widest p marks
rounds p marks (suc k) = narrowed p marks (rounds p marks k)

-- the rounds end at a contradiction, or at a pair that the next round leaves as it is
abbrev pub Final : Program → Marks → Pair → Type 0
Final p marks q = (contradictory p q ≡ true) ⊎ (narrowed p marks q ≡ q)

pub record Last (p : Program) (marks : Marks) (q : Pair) : Type 0 where
  pub reached : Reached p marks q
  pub final : Final p marks q
