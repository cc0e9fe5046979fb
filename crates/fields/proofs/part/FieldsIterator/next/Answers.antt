use Rattle.std.proofs.Common.{length, ap, rules}
use Rattle.fields.proofs.Parting.{next_field}
use Rattle.fields.proofs.part.FieldsIterator.next.Goals as goal

pub returns : goal.returns
returns c =
    let p = c.part_at-field.ensures in
    let step = next_field c.args.self.now.at c.args.self.now.line.now c.part_at-field.result.bytes.now c.part_at-field.result.at c.if-self.false p.starts p.part p.long in
    let shorter = ap length step in
    record { steps = step; goes = search rules }
