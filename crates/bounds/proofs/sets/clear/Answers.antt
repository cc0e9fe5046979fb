use Rattle.std.proofs.Common.{length, ◌∙◌}
use Rattle.bounds.proofs.Tables.{tabled_none}
use Rattle.bounds.proofs.sets.clear.Goals as goal

pub returns : goal.returns
returns c = c.fill.ensures.after (λ y e. e) ∙ tabled_none 0 (length c.args.set.now)
