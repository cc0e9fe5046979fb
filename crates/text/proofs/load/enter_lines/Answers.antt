use Rattle.std.proofs.Common.{◌≡◌, Some, Ok, sym, refl, ap, ◌∙◌}
use Rattle.std.proofs.lemmas.Result.{err_from_is_err_and}
use Rattle.fields.specs.Shown.{left}
use Rattle.grammar.specs.Entering.{ruled}
use Rattle.declarations.specs.Shown.{Opening, opened, opened_as, to_come}
use Rattle.text.proofs.Lines.{none_left, not_opened, goes_on, not_entered}
use Rattle.text.proofs.load.enter_lines.Goals as goal

pub returns-in_err-fields : goal.returns-in_err-fields
returns-in_err-fields c d rules names ranked holds =
    let going = c.loop-fields.invariant d rules names ranked holds in
    let answer = ruled d rules c.args.reader.now.line (to_come c.args.reader.now) in
    let p = err_from_is_err_and c.from_residual.result c.from_residual.ensures.1 in
    rw (p.1, p.2) (not_opened d answer c.loop-fields.reader c.loop-fields.sheet going c.in_err-fields.field-0.0 c.in_err-fields.ensures)

pub returns-in-Err : goal.returns-in-Err
returns-in-Err c d rules names ranked holds =
    let going = c.loop-fields.invariant d rules names ranked holds in
    let answer = ruled d rules c.args.reader.now.line (to_come c.args.reader.now) in
    let next = c.open.new.self in
    let o : Opening = record { letter = next.last; fields = left c.in-Some.fields; line = next.line; rest = to_come next } in
    let reader = c.loop-fields.reader in
    let e : Ok (Some o) ≡ opened reader.last reader.line (to_come reader) = sym (ap (λ x. opened_as next (Ok x)) c.in-Some.is) ∙ c.in_ok-fields.ensures in
    not_entered d answer reader c.loop-fields.sheet going o e c.enter_line.new.sheet c.in-Err.refusal c.in_line.result (c.in-Err.ensures d going.rules next.line names going.holds) c.in_line.ensures.place c.in_line.ensures.memory

pub loop-fields-preserved : goal.loop-fields-preserved
loop-fields-preserved c d rules names ranked holds =
    let going = c.loop-fields.invariant d rules names ranked holds in
    let answer = ruled d rules c.args.reader.now.line (to_come c.args.reader.now) in
    let next = c.open.new.self in
    let o : Opening = record { letter = next.last; fields = left c.in-Some.fields; line = next.line; rest = to_come next } in
    let reader = c.loop-fields.reader in
    let e : Ok (Some o) ≡ opened reader.last reader.line (to_come reader) = sym (ap (λ x. opened_as next (Ok x)) c.in-Some.is) ∙ c.in_ok-fields.ensures in
    goes_on d answer reader c.loop-fields.sheet going o e next c.enter_line.new.sheet refl refl refl (c.in_default-enter_line.ensures d going.rules next.line names going.holds)

pub returns : goal.returns
returns c d rules names ranked holds =
    let going = c.loop-fields.invariant d rules names ranked holds in
    let answer = ruled d rules c.args.reader.now.line (to_come c.args.reader.now) in
    none_left d answer c.loop-fields.reader c.loop-fields.sheet going (sym (ap (λ x. opened_as c.open.new.self (Ok x)) c.in_default.is) ∙ c.in_ok-fields.ensures)
