-- What the bounds on the plans under a node say of it.
use Rattle.std.specs.Prelude.{◌≡◌, true, false, ◌⊎◌}
use Rattle.semantics.specs.Sets.{◌⊆◌}
use Rattle.semantics.specs.Plans.{Program}
use Rattle.semantics.specs.Alternating.{Pair, contradictory}
use Rattle.semantics.specs.Search.{surely_broken, Open}
use Rattle.enumeration.specs.declared.node.Node.{Node}
use Rattle.enumeration.specs.declared.node.Node.TheVariants.{Refuted, Meets, Branches}

-- neither a contradiction nor a surely broken bar rules every plan out
pub record Possible (p : Program) (q : Pair) : Type 0 where
  pub calm : contradictory p q ≡ false
  pub unbarred : surely_broken p.rules q ≡ false

-- a refuted node has no plan, bounds that meet have one candidate, and else the enumeration goes on at the lowest open atom
abbrev pub Tells : Program → Pair → Node → Type 0
Tells p q Refuted = (contradictory p q ≡ true) ⊎ (surely_broken p.rules q ≡ true)
Tells p q Meets = Possible p q × (q.possible ⊆ q.sure)
Tells p q (Branches a) = Possible p q × Open p q a
