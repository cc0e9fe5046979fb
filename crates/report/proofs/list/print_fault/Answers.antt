use Rattle.std.proofs.Common.{inr, refl, arith}
use Rattle.std.proofs.lemmas.Fmt.{decimal_digit}
use Rattle.report.proofs.list.print_fault.Goals as goal

pub returns : goal.returns
returns g c = rw (c.from.ensures, decimal_digit 0 (omega arith)) (inr refl, c.in_ok-write_all-in-Err.ensures.bytes)
