use Rattle.std.proofs.Common.{rules}
use Rattle.declarations.proofs.Wholes.{ended_last}
use Rattle.declarations.proofs.whole.is_ended.Goals as goal

pub returns-in-len1-up : goal.returns-in-len1-up
returns-in-len1-up c = ended_last c.args.text.now (search rules)
