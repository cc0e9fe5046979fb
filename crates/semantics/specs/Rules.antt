-- Ground rules, the reduct by a set, and the least model of a reduct.
use Rattle.std.specs.Prelude.{ℕ, zero, suc, Bool, true, false, not, ◌&&◌, ◌||◌, T, List, [], ◌==◌, nat_lt}
use Rattle.semantics.specs.declared.Side.{Side}
use Rattle.semantics.specs.declared.Side.TheVariants.{Present, Absent}
use Rattle.semantics.specs.declared.Literal.{Literal}
use Rattle.semantics.specs.declared.Head.{Head}
use Rattle.semantics.specs.declared.Head.TheVariants.{Bar, Atom}
use Rattle.semantics.specs.Sets.{has, ◌⊆◌, any, all, tabled}

-- a line by its meaning: a rule, or a bar
pub record Rule : Type 0 where
  pub head : Head
  pub body : List Literal

-- a plain literal asks one set, a negated one another
abbrev pub literal_holds : List ℕ → List ℕ → Side → ℕ → Bool
literal_holds s by Present a = has s a
literal_holds s by Absent a = not (has by a)

-- the plain atoms lie in s and the negated ones outside `by`
abbrev pub body_holds : List ℕ → List ℕ → List Literal → Bool
body_holds s by ls = all (λ l. literal_holds s by l.side l.atom) ls

abbrev pub heads : Head → ℕ → Bool
heads Bar a = false
heads (Atom h) a = h == a

abbrev pub is_bar : Head → Bool
is_bar Bar = true
is_bar (Atom h) = false

-- a is the head of a rule that the reduct by `by` keeps and whose remaining body lies in s
abbrev pub derives : List Rule → List ℕ → List ℕ → ℕ → Bool
derives rs by s a = any (λ r. heads r.head a && body_holds s by r.body) rs

-- some bar has its plain atoms in s and its negated ones outside `by`
abbrev pub bar_holds : List Rule → List ℕ → List ℕ → Bool
bar_holds rs s by = any (λ r. is_bar r.head && body_holds s by r.body) rs

-- some bar's body holds in s
abbrev pub broken : List Rule → List ℕ → Bool
broken rs s = bar_holds rs s s

-- a is bare, or derived from s
abbrev pub follows : List Rule → List ℕ → (ℕ → Bool) → List ℕ → ℕ → Bool
follows rs by bare s a = bare a || derives rs by s a

-- s has what follows from it
abbrev pub Closed : List Rule → List ℕ → (ℕ → Bool) → List ℕ → Type 0
Closed rs by bare s = (a : ℕ) → T (follows rs by bare s a) → T (has s a)

-- s is the least model of the reduct by `by` and the bare atoms
pub record Least (rs : List Rule) (by : List ℕ) (bare : ℕ → Bool) (s : List ℕ) : Type 0 where
  pub closed : Closed rs by bare s
  pub smallest : (t : List ℕ) → Closed rs by bare t → s ⊆ t

-- the same set, over n atoms, reached by rounds from the empty set
abbrev pub step : List Rule → List ℕ → (ℕ → Bool) → ℕ → List ℕ → List ℕ
step rs by bare n s = tabled (follows rs by bare s) 0 n

abbrev pub steps : List Rule → List ℕ → (ℕ → Bool) → ℕ → ℕ → List ℕ
steps rs by bare n zero = []
steps rs by bare n (suc k) = step rs by bare n (steps rs by bare n k)

unfoldable pub least : List Rule → List ℕ → (ℕ → Bool) → ℕ → List ℕ
least rs by bare n = steps rs by bare n (suc n)

-- every atom of a rule is below n
abbrev pub head_below : ℕ → Head → Bool
head_below n Bar = true
head_below n (Atom h) = nat_lt h n

abbrev pub rule_below : ℕ → Rule → Bool
rule_below n r = head_below n r.head && all (λ l. nat_lt l.atom n) r.body
