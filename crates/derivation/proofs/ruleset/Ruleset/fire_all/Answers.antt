use Rattle.std.proofs.Common.{◌≡◌, length, get_or, take, vec_items, ◌∙◌, subst, arith}
use Rattle.lines.specs.Lines.{rules_of}
use Rattle.derivation.specs.Worklist.{From}
use Rattle.derivation.proofs.Firing.{fire_line, from_more}
use Rattle.lines.proofs.Reading.{rules_count}
use Rattle.derivation.proofs.Keeping.{line_below}
use Rattle.derivation.proofs.Working.{all_done}
use Rattle.derivation.proofs.ruleset.Ruleset.fire_all.Goals as goal

pub fire-requires : goal.fire-requires
fire-requires c =
    let p = c.requires.room in
    let i = c.loop-line.invariant in
    record {
      below = line_below c.args.self.now (length c.loop-line.model) c.loop-line.line-index c.line-item.result (c.loop-line.auto.model ∙ c.requires.atoms) (omega arith) (subst (λ xs. c.line-item.result ≡ get_or xs c.loop-line.line-index c.line-item.result) c.deref-line-items.ensures.value c.line-item.is);
      room = omega arith;
    }

pub loop-line-preserved : goal.loop-line-preserved
loop-line-preserved c =
    let i = c.loop-line.line-index in
    let s = c.fire.ensures.size in
    let r = c.fire.ensures.room in
    let v = c.loop-line.invariant in (
      omega arith,
      omega arith,
      λ bare u.
          fire_line (vec_items c.args.self.now.lines) c.args.by.now i c.line-item.result (omega arith) (subst (λ xs. c.line-item.result ≡ get_or xs i c.line-item.result) c.deref-line-items.ensures.value c.line-item.is) (From i) _ (from_more i)
          c.loop-line.model (take c.loop-line.pending.len c.loop-line.pending.entries.now) _ _ c.fire.ensures.model c.fire.ensures.held bare (c.loop-line.invariant.2 bare u),
    )

pub returns : goal.returns
returns c =
    let ls = vec_items c.args.self.now.lines in
    let i = c.loop-line.line-index in
    record {
      size = c.loop-line.invariant.0;
      room = c.loop-line.invariant.1;
      fired = λ bare u. all_done (rules_of ls) c.args.by.now bare (From i) _ _ (λ j l t. omega (arith, rules_count ls)) (c.loop-line.invariant.2 bare u);
    }
