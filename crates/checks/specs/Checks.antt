-- What the checks of `lay` and `enter` find.
use Rattle.std.specs.Prelude.{◌≡◌, ℕ, false, not, List, [], ◌∷◌, length, Option, Result, nat_le, nat_lt}
use Rattle.semantics.specs.declared.Literal.{Literal}
use Rattle.semantics.specs.declared.Head.{Head}
use Rattle.semantics.specs.Banks.{Meaning}
use Rattle.semantics.specs.Rules.{head_below}
use Rattle.semantics.specs.Sheets.{Fault as Flaw, blank, lay, fault, first_of, fault_if, fault_at, above_head, literal_fault}
use Rattle.faults.specs.declared.Fault.{Fault}
use Rattle.faults.specs.Faults.{out_of_memory}
use Rattle.checks.specs.Faults.{flaw_in}

-- a check answers by what it finds, and never wants memory
pub record Checked {X : Type 0} (found : Option Flaw) (r : Result X Fault) : Type 0 where
  pub finds : flaw_in r ≡ found
  pub needs_none : out_of_memory r ≡ false

-- what `lay` finds, by the bank and the levels
abbrev pub lay_fault : Meaning → List ℕ → Option Flaw
lay_fault bank levels = fault (blank bank) (lay levels)

-- what `enter` finds, by the levels and the number of lines
abbrev pub enter_fault : List ℕ → ℕ → Head → List Literal → Option Flaw
enter_fault levels lines h body =
    first_of (
    fault_if 1 (not (nat_lt 0 (length levels)))
    ∷ fault_if 6 (nat_le 512 lines)
    ∷ fault_if 7 (not (head_below (length levels) h))
    ∷ fault_if 8 (nat_lt 8 (length body))
    ∷ literal_fault levels h 0 body
    ∷ [])

-- what is found at one literal
abbrev pub one_literal_fault : List ℕ → Head → ℕ → Literal → Option Flaw
one_literal_fault levels h i l = first_of (fault_at 9 i (not (nat_lt l.atom (length levels))) ∷ fault_at 10 i (above_head levels h l.atom) ∷ [])
