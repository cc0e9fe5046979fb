use Rattle.std.proofs.Common.{take, drop, sym, ap, ◌∙◌}
use Rattle.fields.proofs.Parting.{next_line}
use Rattle.fields.proofs.part.line_at.Goals as goal

pub returns-then-at-text : goal.returns-then-at-text
returns-then-at-text c =
    let p = c.part_at.ensures in
    record {
      lines = next_line c.args.at c.args.text.now c.part_at.result.bytes.now c.if-at-text.true p.part p.long;
      starts = p.starts;
      part = p.part ∙ ap (λ k. take k (drop c.args.at c.args.text.now)) (sym p.long);
      within = p.within;
    }
