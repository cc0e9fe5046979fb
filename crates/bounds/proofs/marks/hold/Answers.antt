use Rattle.std.proofs.Common.{ℕ, Bool, ◌||◌, length, get_or, arith}
use Rattle.semantics.specs.Sets.{has}
use Rattle.semantics.specs.Alternating.{marks_in, is_present}
use Rattle.bounds.proofs.Fills.{filled_more, kept_more, filled_all}
use Rattle.bounds.proofs.Marking.{held_byte}
use Rattle.bounds.proofs.marks.hold.Goals as goal

pub loop-atom-preserved : goal.loop-atom-preserved
loop-atom-preserved c =
    let ms = c.args.marks.now in
    let old = c.args.set.now in
    let s = c.loop-atom.set in
    let i = c.loop-atom.atom in
    let f : ℕ → Bool = λ a. has old a || is_present (marks_in ms a) in
    let byte = held_byte (get_or s i 0) (get_or old i 0) (get_or ms i 0) (c.loop-atom.invariant.1 i (omega arith)) in
    (filled_more f s i _ (omega arith) byte c.loop-atom.invariant.0, kept_more old s i _ c.loop-atom.invariant.1)

pub returns : goal.returns
returns c =
    let ms = c.args.marks.now in
    let old = c.args.set.now in
    filled_all (λ a. has old a || is_present (marks_in ms a)) c.loop-atom.set (length ms) c.loop-atom.atom (omega arith) c.loop-atom-test.false c.loop-atom.invariant.0
