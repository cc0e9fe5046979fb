use Rattle.std.proofs.lemmas.Result.{err_from_is_err_and}
use Rattle.report.proofs.Listing.{one_more, ends, breaks_off}
use Rattle.report.proofs.list.list_lines.Goals as goal

pub loop-lister-preserved : goal.loop-lister-preserved
loop-lister-preserved g c =
    let so_far = c.loop-lister.invariant in
    one_more c.args.text.now _ _ c.loop-lister.lister so_far c.next_line.follows.lender-at-none c.in-Some.line
    (rw (c.in_ok-line.was, c.in-Some.is) at (c.next_line.ensures.line so_far.0 _ so_far.2))
    (rw (c.in_ok-line.was, c.in-Some.is) at c.next_line.follows.holds-at-none) _ c.in_ok-write_all.ensures.bytes

pub returns : goal.returns
returns g c =
    let so_far = c.loop-lister.invariant in
    ends c.args.text.now _ _ c.loop-lister.lister so_far (rw (c.in_ok-line.was, c.in_default.is) at (c.next_line.ensures.line so_far.0 _ so_far.2))

pub returns-in_err-line : goal.returns-in_err-line
returns-in_err-line g c =
    let so_far = c.loop-lister.invariant in
    let p = err_from_is_err_and c.from_residual-in_err-line.result c.from_residual-in_err-line.ensures.1 in
    rw (p.1, p.2) (breaks_off c.args.text.now _ _ c.loop-lister.lister so_far c.in_err-line.field-0.0 (rw c.in_err-line.was at (c.next_line.ensures.line so_far.0 _ so_far.2)))
