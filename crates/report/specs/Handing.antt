-- What a lister is once the line that it handed out is no longer borrowed.
use Rattle.std.specs.Prelude.{ℕ, List, [], Option, Result}
use Rattle.std.specs.Borrow.{Fml, Bor, MutBor}
use Rattle.std.specs.Io.BufRead.{Rests}
use mir.Syntax.{named}
use Rattle.faults.specs.declared.Fault.{Fault}
use Rattle.report.specs.declared.lister.Lister.{Lister}
use Rattle.report.specs.contracts.lister.Lister.{the_row}
use Rattle.report.specs.Progress.{MovesOn}

abbrev pub LendsLine : MutBor Lister → Result (Option (Bor (List ℕ))) Fault → Fml
LendsLine x r = Rests (the_row (record { mir = named 0; lft = [] })) x (MovesOn x.now r)
