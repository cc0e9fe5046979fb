use Rattle.std.proofs.Common.{◌≡◌, length}
use Rattle.declarations.specs.Declaring.{declarations}
use Rattle.declarations.specs.Shown.{to_come, saying}
use Rattle.declarations.proofs.preamble.read_preamble.Given as goal

abbrev pub invariant-loop-fields : goal.invariant-loop-fields
invariant-loop-fields l = declarations (saying l.preamble) l.reader.last l.reader.line (to_come l.reader) ≡ declarations (saying l.initial.preamble) l.initial.reader.last l.initial.reader.line (to_come l.initial.reader)

abbrev pub decreases-loop-fields : goal.decreases-loop-fields
decreases-loop-fields l = length (to_come l.reader)
