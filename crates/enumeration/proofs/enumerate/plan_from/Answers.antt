use Rattle.std.proofs.Common.{◌≡◌, ◌<◌, ◌∷◌, true, if◌then◌else◌, length, Some, None, sym, ap, ◌∙◌, subst, arith}
use Rattle.std.proofs.lemmas.Bool.{ltb-true, ltb-false}
use Rattle.lines.specs.Stacks.{newest_first}
use Rattle.semantics.specs.Search.{absent, back, work}
use Rattle.semantics.proofs.Choices.{push_falls, back_falls}
use Rattle.bounds.specs.Programs.{program_of}
use Rattle.enumeration.specs.Visits.{GoesOn}
use Rattle.enumeration.proofs.Seeking.{none_left, no_room}
use Rattle.enumeration.proofs.enumerate.plan_from.Goals as goal
use Rattle.enumeration.proofs.enumerate.plan_from.Goals.{in-Passed, in-Opens}

pub returns-then-not-goes_on-clause-seeks : goal.returns-then-not-goes_on-clause-seeks
returns-then-not-goes_on-clause-seeks g c =
    let p = program_of g.M.Module.meaning c.args.program.now in
    let start = Some (newest_first c.args.choices.now) in
    let held = newest_first c.loop-choices.choices in
    elim c.match-visit.branch [
      | in-Passed w ↦
          let last : back held ≡ None = w.step_back-goes_on.ensures.back ∙ ap (λ b. if b then Some (newest_first w.step_back-goes_on.new.choices) else None) (sym w.goes_on-is ∙ c.if-not-goes_on.true) in
          none_left p start (newest_first c.match-visit.choices) c.visit.new.plan (subst (GoesOn p start) last (λ k ok here. w.in-Passed.ensures.visited k ok (c.loop-choices.invariant.3 k ok here)))
      | in-Opens w ↦
          let full = ltb-false (length held) (length c.loop-choices.choices.entries.now) (sym w.decide-goes_on.ensures.room ∙ sym w.goes_on-is ∙ c.if-not-goes_on.true) in
          let size = c.loop-choices.invariant.1 in
          let room = c.requires.room in
          no_room p start (newest_first c.match-visit.choices) c.visit.new.plan w.in-Opens.atom held (omega arith) (λ k ok here. w.in-Opens.ensures.visited k ok (c.loop-choices.invariant.3 k ok here))
    ]

pub loop-choices-smaller : goal.loop-choices-smaller
loop-choices-smaller g c =
    let n = (program_of g.M.Module.meaning c.args.program.now).atoms in
    let held = newest_first c.loop-choices.choices in
    elim c.match-visit.branch [
      | in-Passed w ↦
          let next : back held ≡ Some (newest_first w.step_back-goes_on.new.choices) = w.step_back-goes_on.ensures.back ∙ ap (λ b. if b then Some (newest_first w.step_back-goes_on.new.choices) else None) (sym w.goes_on-is ∙ c.if-not-goes_on.false) in
          subst (λ s. work n (newest_first s) < work n held) (sym w.choices-is) (back_falls n held (newest_first w.step_back-goes_on.new.choices) next)
      | in-Opens w ↦
          let decided = w.decide-goes_on in
          let yes : decided.result ≡ true = sym w.goes_on-is ∙ c.if-not-goes_on.false in
          let room = ltb-true (length held) (length c.loop-choices.choices.entries.now) (sym decided.ensures.room ∙ yes) in
          let size = c.loop-choices.invariant.1 in
          let asked = c.requires.room in
          let chosen = decided.ensures.chosen ∙ ap (λ b. if b then absent w.in-Opens.atom ∷ held else held) yes in
          subst (λ s. work n (newest_first s) < work n held) (sym w.choices-is) (subst (λ cs. work n cs < work n held) (sym chosen) (push_falls n (absent w.in-Opens.atom) held (omega arith)))
    ]
