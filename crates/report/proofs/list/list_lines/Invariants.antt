use Rattle.std.proofs.Common.{◌-◌}
use Rattle.report.specs.Progress.{lines_out}
use Rattle.report.proofs.Listing.{ListedSoFar}
use Rattle.report.proofs.list.list_lines.Given as goal

abbrev pub invariant-loop-lister : goal.invariant-loop-lister
invariant-loop-lister g l = ListedSoFar l.fn.text (g.W.Write.contents l.initial.out) (g.W.Write.contents l.out) l.lister

-- there are at most 1,000,256 lines
abbrev pub decreases-loop-lister : goal.decreases-loop-lister
decreases-loop-lister g l = 1_000_258 - lines_out l.lister
