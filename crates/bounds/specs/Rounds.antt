-- One round of narrowing, from what the bank was found to give.
use Rattle.std.specs.Prelude.{ℕ, not, ◌&&◌, ◌||◌, List, []}
use Rattle.semantics.specs.Sets.{has, tabled}
use Rattle.semantics.specs.Rules.{Rule, least}
use Rattle.semantics.specs.Banks.{Meaning}
use Rattle.semantics.specs.Plans.{Program, over}
use Rattle.semantics.specs.Alternating.{Pair, Marks, is_present, is_absent}

-- a pair of sets
abbrev pub pair : List ℕ → List ℕ → Pair
pair sure possible = record { sure = sure; possible = possible }

-- a bank over n atoms with no rules: what it gives does not hang on the rules
abbrev pub bank_alone : Meaning → ℕ → Program
bank_alone bank n = over bank n []

-- both sets anew from the old pair, where the bank surely gives one set of atoms and possibly another
abbrev pub rounded : List Rule → ℕ → Marks → Pair → Pair → Pair
rounded rules n marks given q = record {
  sure = least rules q.possible (λ a. has given.sure a || is_present (marks a)) n;
  possible = tabled (λ a. has (least rules q.sure (has given.possible) n) a && not (is_absent (marks a))) 0 n;
}
