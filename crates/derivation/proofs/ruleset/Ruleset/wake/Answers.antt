use Rattle.std.proofs.Common.{length, get_or, take, drop, vec_items, sym, ◌∙◌, arith}
use Rattle.semantics.specs.Sets.{◌∈◌}
use Rattle.derivation.specs.Rulesets.{rules_in}
use Rattle.derivation.proofs.Firing.{fire_line, numbers_more, numbers_done}
use Rattle.derivation.proofs.Keeping.{woken_line, line_below}
use Rattle.derivation.proofs.Waking.{list_read}
use Rattle.derivation.proofs.Working.{all_done}
use Rattle.derivation.proofs.ruleset.Ruleset.wake.Goals as goal

pub index-requires-in-loop-number : goal.index-requires-in-loop-number
index-requires-in-loop-number c =
    let listed = c.deref-number-items.ensures.value ∙ sym (list_read c.args.self.now.index c.args.atom c.index.result.now c.requires.below c.index.ensures) in
    let here = woken_line c.args.self.now c.args.atom c.loop-number.number-index c.deref-number-items.result.now listed (omega arith) in
    omega (arith, c.args.self.now.lines.ok.0)

pub fire-requires-clause-below : goal.fire-requires-clause-below
fire-requires-clause-below c =
    let numbers = c.deref-number-items.result.now in
    let i = c.loop-number.number-index in
    let listed = c.deref-number-items.ensures.value ∙ sym (list_read c.args.self.now.index c.args.atom c.index.result.now c.requires.below c.index.ensures) in
    let here = woken_line c.args.self.now c.args.atom i numbers listed (omega arith) in
    line_below c.args.self.now (length c.loop-number.model) (get_or numbers i 0) c.index-in-loop-number.result.now (c.loop-number.auto.model ∙ c.requires.atoms) here c.index-in-loop-number.ensures

pub loop-number-preserved : goal.loop-number-preserved
loop-number-preserved c =
    let numbers = c.deref-number-items.result.now in
    let i = c.loop-number.number-index in
    let listed = c.deref-number-items.ensures.value ∙ sym (list_read c.args.self.now.index c.args.atom c.index.result.now c.requires.below c.index.ensures) in
    let here = woken_line c.args.self.now c.args.atom i numbers listed (omega arith) in
    let inv = c.loop-number.invariant in
    let size = c.fire.ensures.size in
    let room = c.fire.ensures.room in
    let fewer = c.fire.ensures.fewer in (
      omega arith,
      omega arith,
      omega arith,
      λ bare u.
          fire_line (vec_items c.args.self.now.lines) c.args.by.now (get_or numbers i 0) c.index-in-loop-number.result.now here c.index-in-loop-number.ensures _ _ (λ j h. numbers_more numbers i j (omega arith) h)
          c.loop-number.model (take c.loop-number.pending.len c.loop-number.pending.entries.now) _ _ c.fire.ensures.model c.fire.ensures.held bare (c.loop-number.invariant.3 bare u),
    )

pub returns-clause-fired : goal.returns-clause-fired
returns-clause-fired c bare u =
    let numbers = c.deref-number-items.result.now in
    let i = c.loop-number.number-index in
    let listed = c.deref-number-items.ensures.value ∙ sym (list_read c.args.self.now.index c.args.atom c.index.result.now c.requires.below c.index.ensures) in
    let begun = c.loop-number.invariant.3 bare (rw listed u) in
    all_done (rules_in c.args.self.now) c.args.by.now bare (λ j. j ∈ drop i numbers) _ _ (λ j l h. numbers_done numbers i j (omega arith) h) begun
