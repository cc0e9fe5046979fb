-- Plans: the stable models of rules over a bank, with no bar broken.
use Rattle.std.specs.Prelude.{◌≡◌, ℕ, Bool, false, not, ◌&&◌, T, List, count_by, filter}
use Rattle.semantics.specs.Sets.{has, Canonical, all, same, subsets}
use Rattle.semantics.specs.Rules.{Rule, Least, least, broken, rule_below}
use Rattle.semantics.specs.Banks.{Meaning, Lawful, gives, OutputsBelow}

-- n atoms, the lines in force and the bank
pub record Program : Type 0 where
  pub atoms : ℕ
  pub rules : List Rule
  pub bank : Meaning

abbrev pub over : Meaning → ℕ → List Rule → Program
over bank n rules = record { atoms = n; rules = rules; bank = bank }

pub record WellFormed (p : Program) : Type 0 where
  pub rules_below : T (all (rule_below p.atoms) p.rules)
  pub bank_below : OutputsBelow p.atoms p.bank
  pub bank_lawful : Lawful p.bank

pub record Plan (p : Program) (s : List ℕ) : Type 0 where
  pub canonical : Canonical p.atoms s
  pub stable : Least p.rules s (gives p.bank s) s
  pub unbroken : broken p.rules s ≡ false

-- a test for plans among canonical sets
abbrev pub is_plan : Program → List ℕ → Bool
is_plan p s = same s (least p.rules s (gives p.bank s) p.atoms) && not (broken p.rules s)

-- every plan, in listing order
unfoldable pub plans : Program → List (List ℕ)
plans p = filter (is_plan p) (subsets p.atoms)

-- how many of the sets have the atom
abbrev pub held : List (List ℕ) → ℕ → ℕ
held xs a = count_by (λ s. has s a) xs
