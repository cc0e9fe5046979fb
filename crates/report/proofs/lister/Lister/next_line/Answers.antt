use Rattle.std.proofs.Common.{refl, arith}
use Rattle.report.proofs.Printing.{end_of_printout}
use Rattle.report.proofs.lister.Lister.next_line.Goals as goal

pub returns-in-Tells-2 : goal.returns-in-Tells-2
returns-in-Tells-2 c = (
  (refl, (λ _. tt), tt),
  record {
    line = λ d k at. end_of_printout d k c.args.self.now at c.in-Tells.atom c.in-Tells.is (omega (arith, c.if-from-atoms.false, c.from.ensures, c.atoms.ensures));
    moved = tt;
  },
)
