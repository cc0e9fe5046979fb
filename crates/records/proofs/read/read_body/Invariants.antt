use Rattle.std.proofs.Common.{◌≡◌, ◌≤◌, length}
use Rattle.records.specs.Reading.{literals}
use Rattle.fields.specs.Shown.{declared, left}
use Rattle.records.specs.Shown.{held, up_to_nine}
use Rattle.records.proofs.Bodies.{gathered}
use Rattle.records.proofs.read.read_body.Given as goal

abbrev pub invariant-loop-field : goal.invariant-loop-field
invariant-loop-field l =
    (goal.iterator-loop-field).can_next l.field-iterator
    × (goal.iterator-loop-field).is_finite l.field-iterator
    × (length (held l.body) ≤ 9)
    × (gathered (held l.body) (literals (declared l.names) (left l.field-iterator)) ≡ up_to_nine (literals (declared l.names) (left l.fn.fields)))
