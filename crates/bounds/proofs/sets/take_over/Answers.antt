use Rattle.std.proofs.Common.{sym}
use Rattle.bounds.proofs.Sames.{same_decides}
use Rattle.bounds.proofs.sets.take_over.Goals as goal

pub returns-then-is_same : goal.returns-then-is_same
returns-then-is_same c = record {
  set = (same_decides c.args.set.now c.args.other.now).0 (sym c.if-is_same.ensures);
  test = c.if-is_same.ensures;
}
