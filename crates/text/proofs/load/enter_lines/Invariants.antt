use Rattle.std.proofs.Common.{◌≡◌, List, length}
use Rattle.semantics.specs.Rules.{Rule}
use Rattle.records.specs.Reading.{rank_of}
use Rattle.fields.specs.Shown.{declared}
use Rattle.declarations.specs.Declaring.{Declared}
use Rattle.grammar.specs.Entering.{ruled}
use Rattle.text.specs.Sheets.{Holds}
use Rattle.declarations.specs.Shown.{to_come}
use Rattle.text.proofs.Lines.{Going}
use Rattle.text.proofs.load.enter_lines.Given as goal

abbrev pub invariant-loop-fields : goal.invariant-loop-fields
invariant-loop-fields l =
    (d : Declared) (rules : List Rule) → declared l.names ≡ d.names → rank_of l.initial.reader.last ≡ 2 → Holds d.rows d.levels rules l.initial.sheet
    → Going d (ruled d rules l.initial.reader.line (to_come l.initial.reader)) l.reader l.sheet

abbrev pub decreases-loop-fields : goal.decreases-loop-fields
decreases-loop-fields l = length (to_come l.reader)
