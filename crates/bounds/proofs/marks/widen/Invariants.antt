use Rattle.std.proofs.Common.{not}
use Rattle.semantics.specs.Alternating.{marks_in, is_present, is_absent}
use Rattle.bounds.proofs.Fills.{Filled}
use Rattle.bounds.proofs.marks.widen.Given as goal

abbrev pub invariant-loop-atom : goal.invariant-loop-atom
invariant-loop-atom l = Filled (λ a. is_present (marks_in l.marks a)) l.atom l.sure × Filled (λ a. not (is_absent (marks_in l.marks a))) l.atom l.possible
