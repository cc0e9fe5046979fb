use Rattle.std.proofs.Common.{sym, ap, ◌∙◌, inl, inr}
use Rattle.semantics.specs.Sets.{some_below}
use Rattle.semantics.specs.Plans.{over}
use Rattle.semantics.proofs.Bounds.{calm_from}
use Rattle.derivation.specs.Rulesets.{atoms_in, rules_in}
use Rattle.semantics.specs.Alternating.{Pair, clashes}
use Rattle.bounds.proofs.Beyond.{clash_found, none_beyond}
use Rattle.enumeration.proofs.Nodes.{lowest_open}
use Rattle.enumeration.proofs.node.look.Goals as goal
use Rattle.enumeration.proofs.node.look.Goals.{then-is_some-via-then-is_some, then-is_some-via-else-is_some+then-bar_holds}

pub returns-in-Some : goal.returns-in-Some
returns-in-Some c bank =
    let p = over bank (atoms_in c.args.rules.now) (rules_in c.args.rules.now) in
    let q : Pair = record { sure = c.args.sure.now; possible = c.args.possible.now } in
    let low = none_beyond q.sure q.possible c.first_beyond.result c.first_beyond.ensures (sym c.is_some.ensures ∙ c.if-is_some.false) in
    (record { calm = calm_from p q low; unbarred = sym c.bar_holds.ensures ∙ c.if-bar_holds.false }, lowest_open p q c.in-Some.atom c.requires.possible low c.in-Some.ensures)

pub returns-in-None : goal.returns-in-None
returns-in-None c bank =
    let p = over bank (atoms_in c.args.rules.now) (rules_in c.args.rules.now) in
    let q : Pair = record { sure = c.args.sure.now; possible = c.args.possible.now } in
    let low = none_beyond q.sure q.possible c.first_beyond.result c.first_beyond.ensures (sym c.is_some.ensures ∙ c.if-is_some.false) in
    (record { calm = calm_from p q low; unbarred = sym c.bar_holds.ensures ∙ c.if-bar_holds.false }, c.in-None.ensures)

pub returns-then-is_some : goal.returns-then-is_some
returns-then-is_some c bank =
    let q : Pair = record { sure = c.args.sure.now; possible = c.args.possible.now } in
    elim c.then-is_some.branch [
      | then-is_some-via-then-is_some w ↦ inl (ap (λ n. some_below n (clashes q)) (sym c.requires.sure) ∙ sym (clash_found q c.first_beyond.result c.first_beyond.ensures) ∙ sym c.is_some.ensures ∙ w.if-is_some.true)
      | then-is_some-via-else-is_some+then-bar_holds w ↦ inr (sym w.bar_holds.ensures ∙ w.if-bar_holds.true)
    ]
