use Rattle.std.proofs.Common.{true, false, Err, refl, inl}
use Rattle.faults.specs.declared.Fault.TheVariants.{NotWhole}
use Rattle.records.specs.declared.refusal.Refused.{Refused}
use Rattle.text.proofs.Loading.{whole_answer, settled}
use Rattle.text.proofs.load.load.Goals as goal

pub returns-then-not-is_whole-clause-law : goal.returns-then-not-is_whole-clause-law
returns-then-not-is_whole-clause-law c =
    let refused : Refused = record { fault = NotWhole; line = 0; byte = 0 } in
    rw c.from.ensures (settled c.args.text.now (Err refused) (whole_answer c.args.text.now false (Err refused) c.if-not-is_whole.ensures (inl refl)))

pub returns-clause-law : goal.returns-clause-law
returns-clause-law c =
    settled c.args.text.now c.load_lines.result (whole_answer c.args.text.now true c.load_lines.result c.if-not-is_whole.ensures c.load_lines.ensures)
