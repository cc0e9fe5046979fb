use Rattle.std.proofs.Common.{length, sym, ap, ◌∙◌}
use Rattle.semantics.specs.Alternating.{Pair, marks_in}
use Rattle.derivation.specs.Rulesets.{rules_in, atoms_in}
use Rattle.bounds.specs.Pairs.{pair_of}
use Rattle.bounds.proofs.Rounding.{rounded_size}
use Rattle.bounds.proofs.round.round.Goals as goal

pub take_over-same_sure-requires : goal.take_over-same_sure-requires
take_over-same_sure-requires c =
    c.requires.bounds ∙ sym (ap (λ (q : Pair). length q.sure) c.derive_pair.ensures.rounded ∙ rounded_size (rules_in c.args.rules.now) (atoms_in c.args.rules.now) (marks_in c.args.marks.now) (pair_of c.args.given.now) (pair_of c.args.bounds.now))
