use Rattle.std.proofs.Common.{T, ltb, get_or, take, vec_len, sym, ap, ◌∙◌, subst, arith}
use Rattle.std.proofs.lemmas.List.{take_more}
use Rattle.semantics.specs.declared.Literal.{Literal}
use Rattle.semantics.specs.declared.Side.TheVariants.{Present}
use Rattle.semantics.specs.Sets.{all}
use Rattle.semantics.proofs.Booleans.{all_taken}
use Rattle.derivation.specs.Indexing.{lists_of, put_body, put_literal}
use Rattle.derivation.proofs.Waking.{put_body_push}
use Rattle.derivation.proofs.index.Index.enter.Goals as goal

pub strike-requires : goal.strike-requires
strike-requires c =
    let atoms = c.put.ensures.atoms ∙ c.loop-place.invariant.0 in
    subst (λ n. T (all (λ x. ltb x.atom n) (take c.loop-place.place c.args.body.now))) (sym atoms) (all_taken (λ x. ltb x.atom (vec_len c.args.self.now.woken)) c.loop-place.place c.args.body.now c.requires)

pub loop-place-preserved : goal.loop-place-preserved
loop-place-preserved c =
    let xs = c.args.body.now in
    let i = c.loop-place.place in
    let before = lists_of c.args.self.now in
    let unused : Literal = record { atom = 0; side = Present } in
    let x = get_or xs i unused in
    let more = ap (λ ls. put_body c.args.number ls before) (take_more xs i unused (omega arith)) ∙ put_body_push c.args.number (take i xs) x before in
    (c.put.ensures.atoms ∙ c.loop-place.invariant.0, c.in_default.ensures.lists ∙ ap (put_literal c.args.number x.side x.atom) c.loop-place.invariant.1 ∙ sym more)
