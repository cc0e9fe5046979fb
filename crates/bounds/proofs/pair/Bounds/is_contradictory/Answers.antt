use Rattle.std.proofs.Common.{◌∙◌}
use Rattle.bounds.specs.Pairs.{pair_of}
use Rattle.bounds.proofs.Beyond.{clash_found}
use Rattle.bounds.proofs.pair.Bounds.is_contradictory.Goals as goal

pub returns : goal.returns
returns c = c.is_some.ensures ∙ clash_found (pair_of c.args.self.now) c.first_beyond.result c.first_beyond.ensures
