-- What the bounds say of a node.
use Rattle.std.proofs.Common.{◌≡◌, ℕ, length, arith}
use Rattle.semantics.specs.Sets.{has, ◌⊆◌}
use Rattle.semantics.specs.Plans.{Program}
use Rattle.semantics.specs.Alternating.{Pair}
use Rattle.semantics.specs.Search.{Open}
use Rattle.semantics.proofs.Booleans.{same_tests}
use Rattle.bounds.specs.Beyond.{LowestBeyond}

module _ (p : Program) (q : Pair) where
  pub lowest_open : (a : ℕ) → length q.possible ≡ p.atoms → q.sure ⊆ q.possible → LowestBeyond q.possible q.sure a → Open p q a
  lowest_open a size low h = let below = h.below in record {
    below = omega arith;
    unsure = h.beyond;
    possible = h.member;
    first = λ b l. same_tests (has q.sure b) (has q.possible b) (low b) (h.first b l);
  }
