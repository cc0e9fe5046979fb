use Rattle.std.proofs.Common.{rules}
use Rattle.std.proofs.lemmas.List.{take_more_set}
use Rattle.lines.proofs.stack.Stack.push.Goals as goal

pub returns : goal.returns
returns g c = record {
  lender = search rules;
  size = search rules;
  len = search rules;
  held = take_more_set c.args.self.now.entries.now c.args.self.now.len c.args.entry (search rules);
}
