use Rattle.std.proofs.Common.{◌∙◌, ap₂, inl}
use Rattle.std.proofs.lemmas.Result.{err_from_is_err_and}
use Rattle.sheet.specs.Calls.{tally_of}
use Rattle.printout.specs.Printed.{plan_line}
use Rattle.report.proofs.Printing.{cut_off_here, plan_here, end_here}
use Rattle.report.proofs.lister.Lister.next_plan.Goals as goal

pub returns-in_err-next : goal.returns-in_err-next
returns-in_err-next c d k at plans =
    let p = err_from_is_err_and c.from_residual.result c.from_residual.ensures.1 in
    rw (p.1, p.2)
    (inl (cut_off_here d k c.args.self.now at plans c.next.new.self c.as_mut_slice.result.now c.next.new.buffer
    c.as_mut_slice.ensures.value c.next.auto.buffer c.next.ensures.same c.in_err-next.field-0.0 c.in_err-next.ensures.stepped))

pub returns-in_ok-plan_line-in-Plan : goal.returns-in_ok-plan_line-in-Plan
returns-in_ok-plan_line-in-Plan c d k at plans =
    plan_here d k c.args.self.now at plans c.next.new.self c.as_mut_slice.result.now c.next.new.buffer
    c.as_mut_slice.ensures.value c.next.auto.buffer c.next.ensures.same c.in_ok-next.field-0 c.in_ok-next.ensures.stepped _ c.in-Plan.is
    (c.in_ok-plan_line-in-Plan.ensures ∙ ap₂ plan_line c.as_slice.ensures c.as_slice-in-Plan.ensures.value)

pub returns-in_ok-end_line-in-NoMore : goal.returns-in_ok-end_line-in-NoMore
returns-in_ok-end_line-in-NoMore c d k at plans =
    end_here d k c.args.self.now at plans c.next.new.self c.as_mut_slice.result.now c.next.new.buffer
    c.as_mut_slice.ensures.value c.next.auto.buffer c.next.ensures.same c.in_ok-next.field-0 c.in_ok-next.ensures.stepped c.in-NoMore.is
    _ (tally_of c.in_ok-told-in-NoMore.told) c.in_ok-end_line-in-NoMore.ensures c.in_ok-told-in-NoMore.ensures
