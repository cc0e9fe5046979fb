use Rattle.std.proofs.Common.{◌≡◌, length, Some}
use Rattle.lines.specs.Stacks.{newest_first}
use Rattle.semantics.specs.Search.{work}
use Rattle.derivation.specs.Rulesets.{atoms_in}
use Rattle.bounds.specs.Programs.{program_of}
use Rattle.enumeration.specs.Visits.{GoesOn}
use Rattle.enumeration.proofs.enumerate.plan_from.Given as goal

abbrev pub invariant-loop-choices : goal.invariant-loop-choices
invariant-loop-choices g l =
    (l.choices.entries.ghost_name ≡ l.initial.choices.entries.ghost_name) ×
    (length l.choices.entries.now ≡ length l.initial.choices.entries.now) ×
    (l.plan ≡ l.initial.plan) ×
    GoesOn (program_of g.M.Module.meaning l.program) (Some (newest_first l.initial.choices)) (Some (newest_first l.choices))

abbrev pub decreases-loop-choices : goal.decreases-loop-choices
decreases-loop-choices g l = work (atoms_in l.program.rules.now) (newest_first l.choices)
