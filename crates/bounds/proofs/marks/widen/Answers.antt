use Rattle.std.proofs.Common.{not, length, get_or, arith}
use Rattle.semantics.specs.Alternating.{marks_in, is_present, is_absent}
use Rattle.bounds.proofs.Fills.{filled_more, filled_all}
use Rattle.bounds.proofs.Marking.{sure_byte, possible_byte}
use Rattle.bounds.proofs.marks.widen.Goals as goal

pub loop-atom-preserved : goal.loop-atom-preserved
loop-atom-preserved c =
    let ms = c.args.marks.now in
    let i = c.loop-atom.atom in (
      filled_more (λ a. is_present (marks_in ms a)) c.loop-atom.sure i _ (omega arith) (sure_byte (get_or ms i 0)) c.loop-atom.invariant.0,
      filled_more (λ a. not (is_absent (marks_in ms a))) c.loop-atom.possible i _ (omega arith) (possible_byte (get_or ms i 0)) c.loop-atom.invariant.1,
    )

pub returns : goal.returns
returns c =
    let ms = c.args.marks.now in
    let i = c.loop-atom.atom in
    record {
      sure = filled_all (λ a. is_present (marks_in ms a)) c.loop-atom.sure (length ms) i (omega arith) c.loop-atom-test.false c.loop-atom.invariant.0;
      possible = filled_all (λ a. not (is_absent (marks_in ms a))) c.loop-atom.possible (length ms) i (omega arith) c.loop-atom-test.false c.loop-atom.invariant.1;
    }
