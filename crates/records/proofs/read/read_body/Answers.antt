use Rattle.std.proofs.Common.{◌≤◌, ◌++◌, ◌∷◌, [], length, ◌∙◌, arith}
use Rattle.std.proofs.lemmas.List.{length-take}
use Rattle.fields.specs.Shown.{declared, left, shown}
use Rattle.records.specs.Shown.{held}
use Rattle.records.proofs.Bodies.{gathered_step, gathered_end}
use Rattle.records.proofs.read.read_body.Goals as goal

pub loop-field-preserved : goal.loop-field-preserved
loop-field-preserved c =
    let few : length (held c.push.new.self) ≤ 9 = rw c.push.ensures (omega (arith, length-take 9 (held c.loop-field.body ++ c.in_ok-literal.literal ∷ []))) in (
      tt,
      tt,
      few,
      gathered_step (declared c.args.names.now) (held c.loop-field.body) (held c.push.new.self) c.in_ok-literal.literal (shown c.in-Some.field) (left c.loop-field.field-iterator) (left c.next.new.self) c.in-Some.ensures.steps c.in_ok-literal.ensures c.push.ensures
          ∙ c.loop-field.invariant.3,
    )

pub returns : goal.returns
returns c =
    gathered_end (declared c.args.names.now) (held c.loop-field.body) (left c.loop-field.field-iterator) c.in-None.ensures.steps.0 c.loop-field.invariant.2 ∙ c.loop-field.invariant.3
