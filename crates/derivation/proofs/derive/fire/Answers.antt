use Rattle.std.proofs.Common.{◌++◌, length, take, sym, ap, ◌∙◌, arith, rules}
use Rattle.lines.specs.Lines.{rule_of}
use Rattle.derivation.specs.Worklist.{joined_by}
use Rattle.derivation.proofs.Room.{absent-set, head_within, newly_head}
use Rattle.derivation.proofs.derive.fire.Goals as goal

pub push-requires : goal.push-requires
push-requires c =
    let model = c.args.model.now in
    let h = c.in-Atom.head in
    let l = head_within (length model) (rule_of c.args.line.now) h c.in-Atom.ensures c.requires.below in
    let z = absent-set model h l c.if-model-head-ne1.true in
    let p = c.requires.room in
    omega arith

pub returns-then-body_holds : goal.returns-then-body_holds
returns-then-body_holds c =
    let model = c.args.model.now in
    let h = c.in-Atom.head in
    let r = rule_of c.args.line.now in
    let l = head_within (length model) r h c.in-Atom.ensures c.requires.below in
    let z = absent-set model h l c.if-model-head-ne1.true in
    let e = newly_head c.args.by.now model r h c.in-Atom.ensures c.if-model-head-ne1.true c.if-body_holds.ensures in
    let p = c.push.ensures.len in
    record {
      size = search rules;
      model = sym (ap (joined_by model) e);
      held = c.push.ensures.held ∙ sym (ap (λ new. take c.args.pending.now.len c.args.pending.now.entries.now ++ new) e);
      room = omega arith;
      fewer = omega arith;
    }
