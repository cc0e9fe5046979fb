use Rattle.std.proofs.Common.{◌||◌}
use Rattle.semantics.specs.Sets.{has}
use Rattle.semantics.specs.Alternating.{marks_in, is_present}
use Rattle.bounds.proofs.Fills.{Filled, Kept}
use Rattle.bounds.proofs.marks.hold.Given as goal

abbrev pub invariant-loop-atom : goal.invariant-loop-atom
invariant-loop-atom l = Filled (λ a. has l.initial.set a || is_present (marks_in l.marks a)) l.atom l.set × Kept l.atom l.initial.set l.set
