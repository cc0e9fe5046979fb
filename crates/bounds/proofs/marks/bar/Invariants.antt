use Rattle.std.proofs.Common.{not, ◌&&◌}
use Rattle.semantics.specs.Sets.{has}
use Rattle.semantics.specs.Alternating.{marks_in, is_absent}
use Rattle.bounds.proofs.Fills.{Filled, Kept}
use Rattle.bounds.proofs.marks.bar.Given as goal

abbrev pub invariant-loop-atom : goal.invariant-loop-atom
invariant-loop-atom l = Filled (λ a. has l.initial.set a && not (is_absent (marks_in l.marks a))) l.atom l.set × Kept l.atom l.initial.set l.set
