use Rattle.std.proofs.Common.{◌≡◌, length}
use Rattle.lines.specs.Stacks.{newest_first}
use Rattle.semantics.specs.Search.{back}
use Rattle.enumeration.proofs.backtrack.step_back.Given as goal

abbrev pub invariant-loop-choice : goal.invariant-loop-choice
invariant-loop-choice l =
    (l.choices.entries.ghost_name ≡ l.initial.choices.entries.ghost_name) ×
    (length l.choices.entries.now ≡ length l.initial.choices.entries.now) ×
    (back (newest_first l.choices) ≡ back (newest_first l.initial.choices))

abbrev pub decreases-loop-choice : goal.decreases-loop-choice
decreases-loop-choice l = l.choices.len
