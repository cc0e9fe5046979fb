use Rattle.std.proofs.Common.{◌+◌, ◌<◌, ◌≤◌, T, ltb, length, drop, sym, ap, ◌∙◌, subst, arith}
use Rattle.std.proofs.lemmas.List.{at_drop_more, at_drop_all}
use Rattle.semantics.specs.Sets.{all}
use Rattle.derivation.specs.Indexing.{lists_of, put_body, put_rules, index_of}
use Rattle.lines.specs.Lines.{rules_of, no_rule}
use Rattle.derivation.proofs.Waking.{atoms_count}
use Rattle.lines.proofs.Reading.{rule_read, rules_count, body_below_read}
use Rattle.derivation.proofs.index.Index.of.Goals as goal

pub loop-number-init : goal.loop-number-init
loop-number-init c =
    let e = c.in_ok-index.ensures in
    (atoms_count c.in_ok-index.index c.args.atoms e, ap (put_rules 0 (rules_of c.args.lines.now)) e)

pub enter-requires : goal.enter-requires
enter-requires c =
    let ls = c.args.lines.now in
    let below = body_below_read c.args.atoms ls c.loop-number.number c.index-lines-number.result (omega arith) c.index-lines-number.is c.requires.below in
    let here = subst (λ xs. T (all (λ x. ltb x.atom c.args.atoms) xs)) (sym c.body.ensures) below in
    subst (λ n. T (all (λ x. ltb x.atom n) c.body.result.now)) (sym c.loop-number.invariant.0) here

pub loop-number-preserved : goal.loop-number-preserved
loop-number-preserved c =
    let ls = c.args.lines.now in
    let i = c.loop-number.number in
    let before = lists_of c.loop-number.index in
    let few = c.requires.few in
    let e = c.in_ok-enter.ensures.lists ∙ ap (λ xs. put_body i xs before) c.body.ensures in
    let here : i < length (rules_of ls) = omega (arith, rules_count ls) in
    let step = at_drop_more (λ rs. put_rules i rs before) (rules_of ls) i no_rule here in
    let read = ap (λ r. put_rules (i + 1) (drop (i + 1) (rules_of ls)) (put_body i r.body before)) (rule_read ls i c.index-lines-number.result (omega arith) c.index-lines-number.is) in
    (c.in_ok-enter.ensures.atoms ∙ c.loop-number.invariant.0, ap (put_rules (i + 1) (drop (i + 1) (rules_of ls))) e ∙ sym (step ∙ read) ∙ c.loop-number.invariant.1)

pub returns : goal.returns
unfolding index_of
returns c =
    let ls = c.args.lines.now in
    let i = c.loop-number.number in
    let past : length (rules_of ls) ≤ i = omega (arith, rules_count ls) in
    sym (at_drop_all (λ rs. put_rules i rs (lists_of c.loop-number.index)) (rules_of ls) i past) ∙ c.loop-number.invariant.1
