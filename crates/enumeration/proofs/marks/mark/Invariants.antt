use Rattle.std.proofs.Common.{reverse, take}
use Rattle.enumeration.specs.Marking.{Marked}
use Rattle.enumeration.proofs.marks.mark.Given as goal

abbrev pub invariant-loop-choice : goal.invariant-loop-choice
invariant-loop-choice l = Marked (reverse (take l.choice-index l.choice-items)) l.marks
