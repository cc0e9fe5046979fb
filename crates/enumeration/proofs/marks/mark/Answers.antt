use Rattle.std.proofs.Common.{◌≡◌, ◌+◌, ◌-◌, [], ◌∷◌, reverse, length, get_or, take, sym, ap, ◌∙◌, subst, arith}
use Rattle.std.proofs.lemmas.List.{take_more, take_all}
use Rattle.lines.specs.Stacks.{held}
use Rattle.semantics.specs.declared.Literal.{Literal}
use Rattle.semantics.specs.declared.Side.TheVariants.{Present}
use Rattle.enumeration.specs.Marking.{Marked}
use Rattle.enumeration.proofs.Backing.{reverse_push}
use Rattle.enumeration.proofs.Marking.{marked_none, marked_more, marked_past}
use Rattle.enumeration.proofs.marks.mark.Goals as goal
use Rattle.enumeration.proofs.marks.mark.Goals.{then-atom-marks, else-atom-marks}

-- src/marks.rt:20:5
pub loop-choice-init : goal.loop-choice-init
loop-choice-init c = subst (Marked []) (sym (c.fill.ensures.after (λ y e. e))) (marked_none (length c.args.marks.now))

-- src/marks.rt:20:5
pub loop-choice-preserved : goal.loop-choice-preserved
loop-choice-preserved c =
    let items = take (c.len.result - 0) c.room.result.now in
    let i = c.loop-choice.choice-index in
    let d : Literal = record { atom = 0; side = Present } in
    let older = reverse (take i items) in
    let more : reverse (take (i + 1) items) ≡ get_or items i d ∷ older = reverse_push (take i items) (take (i + 1) items) (get_or items i d) (take_more items i d (omega arith)) in
    subst (λ cs. Marked cs c.if-atom-marks.marks) (sym more)
    (elim c.if-atom-marks.branch [
      | then-atom-marks w ↦ subst (Marked (get_or items i d ∷ older)) (sym w.marks-is) (marked_more older (get_or items i d) c.loop-choice.marks c.loop-choice.invariant w.byte_of.result w.byte_of.ensures)
      | else-atom-marks w ↦ subst (Marked (get_or items i d ∷ older)) (sym w.marks-is) (marked_past older (get_or items i d) c.loop-choice.marks c.loop-choice.invariant w.if-atom-marks.false)
    ])

-- src/marks.rt:16:1
pub returns : goal.returns
returns c =
    let items = take (c.len.result - 0) c.room.result.now in
    let all = take_all c.loop-choice.choice-index items (omega arith) in
    let len : c.len.result - 0 ≡ c.args.choices.now.len = omega arith in
    let same : items ≡ held c.args.choices.now = ap (λ k. take k c.room.result.now) len ∙ ap (take c.args.choices.now.len) c.room.ensures in
    subst (λ cs. Marked (reverse cs) c.loop-choice.marks) (all ∙ same) c.loop-choice.invariant
