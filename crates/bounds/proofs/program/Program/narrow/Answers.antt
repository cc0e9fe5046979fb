use Rattle.std.proofs.Common.{not, length, refl, sym, ap, ◌∙◌, subst, inl, inr, arith, rules}
use Rattle.semantics.specs.Sets.{tabled}
use Rattle.semantics.specs.Alternating.{Pair, marks_in, is_present, is_absent, surely}
use Rattle.bounds.specs.Programs.{program_of}
use Rattle.bounds.specs.Pairs.{pair_of, atoms_of}
use Rattle.bounds.specs.Rounds.{bank_alone}
use Rattle.bounds.proofs.Ending.{Underway, begun, ends_in_contradiction, ends_unchanged, goes_on, never_more}
use Rattle.bounds.proofs.Rounding.{pair_same, possibly_canonical, rounded_narrowed, rounded_size}
use Rattle.bounds.proofs.Tables.{tabled_size}
use Rattle.bounds.proofs.program.Program.narrow.Goals as goal

pub loop-turn-init : goal.loop-turn-init
loop-turn-init g c =
    let p = program_of g.M.Module.meaning c.args.self.now in
    let ms = marks_in c.args.marks.now in
    let narrow = c.args.self.now.rules.now.narrow in
    let size = c.requires.marks in
    let sure = c.widen.ensures.sure ∙ ap (λ k. tabled (λ a. is_present (ms a)) 0 k) c.requires.marks in
    let possible = c.widen.ensures.possible ∙ ap (λ k. tabled (λ a. not (is_absent (ms a))) 0 k) c.requires.marks in
    (tabled_size (λ a. is_present (ms a)) p.atoms c.widen.new.sure sure, search rules, refl, refl, λ ok. subst (Underway p ms 0) (sym (pair_same sure possible)) (begun p ms))

pub round-requires-clause-given : goal.round-requires-clause-given
round-requires-clause-given g c =
    let b = c.loop-turn.bounds in
    tabled_size (surely (bank_alone (g.M.Module.meaning c.args.self.now.bank.now) (atoms_of b)) (pair_of b)) (atoms_of b) c.query_between.new.given.sure.now c.query_between.ensures.sure ∙ c.loop-turn.invariant.0

pub round-requires-clause-canonical : goal.round-requires-clause-canonical
round-requires-clause-canonical g c =
    let p = program_of g.M.Module.meaning c.args.self.now in
    let b = c.loop-turn.bounds in
    possibly_canonical p.bank p.rules p.atoms (atoms_of b) (pair_of b) c.loop-turn.invariant.0 c.query_between.new.given.possible.now c.query_between.ensures.possible

pub returns-in-Contradiction : goal.returns-in-Contradiction
returns-in-Contradiction g c =
    let p = program_of g.M.Module.meaning c.args.self.now in
    let ms = marks_in c.args.marks.now in
    let q = pair_of c.loop-turn.bounds in
    let r = pair_of c.round.new.bounds in
    let given = pair_of c.query_between.new.given in
    let step = rounded_narrowed p.bank p.rules p.atoms (length q.sure) q c.loop-turn.invariant.0 ms given r c.query_between.ensures.sure c.query_between.ensures.possible c.round.ensures.narrowed in
    record {
      lender_sure = c.round.ensures.lender_sure ∙ c.loop-turn.invariant.2;
      lender_possible = c.round.ensures.lender_possible ∙ c.loop-turn.invariant.3;
      size = ap (λ (x : Pair). length x.sure) c.round.ensures.narrowed ∙ rounded_size p.rules p.atoms ms given q;
      narrowed = λ ok. elim c.in-Contradiction.is [
        | inl e ↦ ends_in_contradiction p ms c.loop-turn._turn q r (c.loop-turn.invariant.4 ok) step (sym e ∙ c.round.ensures.end)
        | inr e ↦ ends_unchanged p ms c.loop-turn._turn q r (c.loop-turn.invariant.4 ok) step (sym e ∙ c.round.ensures.end)
      ];
    }

pub loop-turn-preserved : goal.loop-turn-preserved
loop-turn-preserved g c =
    let p = program_of g.M.Module.meaning c.args.self.now in
    let ms = marks_in c.args.marks.now in
    let q = pair_of c.loop-turn.bounds in
    let r = pair_of c.round.new.bounds in
    let given = pair_of c.query_between.new.given in
    let step = rounded_narrowed p.bank p.rules p.atoms (length q.sure) q c.loop-turn.invariant.0 ms given r c.query_between.ensures.sure c.query_between.ensures.possible c.in-GoingOn.ensures.narrowed in (
      ap (λ (x : Pair). length x.sure) c.in-GoingOn.ensures.narrowed ∙ rounded_size p.rules p.atoms ms given q,
      c.in-GoingOn.ensures.room,
      c.in-GoingOn.ensures.lender_sure ∙ c.loop-turn.invariant.2,
      c.in-GoingOn.ensures.lender_possible ∙ c.loop-turn.invariant.3,
      λ ok. goes_on p ms c.loop-turn._turn q r (c.loop-turn.invariant.4 ok) step ok c.in-GoingOn.ensures.end,
    )

pub returns : goal.returns
returns g c =
    let p = program_of g.M.Module.meaning c.args.self.now in
    let ms = marks_in c.args.marks.now in
    record {
      lender_sure = c.loop-turn.invariant.2;
      lender_possible = c.loop-turn.invariant.3;
      size = c.loop-turn.invariant.0;
      narrowed = λ ok. absurd (never_more p ms c.loop-turn._turn (pair_of c.loop-turn.bounds) (c.loop-turn.invariant.4 ok) (omega (arith, c.requires.marks)));
    }
