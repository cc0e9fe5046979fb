use Rattle.std.proofs.Common.{◌≡◌, ◌≤◌, T, ltb, length, vec_items, vec_len, sym, ap, ◌∙◌, subst, arith}
use Rattle.semantics.specs.Sets.{all}
use Rattle.semantics.specs.Rules.{rule_below, head_below}
use Rattle.semantics.proofs.Booleans.{and_right}
use Rattle.derivation.specs.Indexing.{lists_of, put_body, index_of}
use Rattle.lines.specs.Lines.{rule_of, rules_of}
use Rattle.derivation.proofs.Keeping.{below_front, below_last, struck}
use Rattle.derivation.proofs.ruleset.Ruleset.strike.Goals as goal

pub strike-requires : goal.strike-requires
strike-requires c =
    let self = c.args.self.now in
    let n = vec_len self.index.woken in
    let l = c.in_ok-line.line in
    let all_below = subst (λ xs. T (all (rule_below n) (rules_of xs))) c.in_ok-line.ensures.items self.below in
    let below = and_right (head_below n l.head) (all (λ x. ltb x.atom n) (rule_of l).body) (below_last n (vec_items c.pop.new.self) l all_below) in
    subst (λ xs. T (all (λ x. ltb x.atom n) xs)) (sym c.body.ensures) below

pub invariant_of-self-2 : goal.invariant_of-self-2
invariant_of-self-2 c =
    let self = c.args.self.now in
    let n = vec_len self.index.woken in
    let ls = vec_items c.pop.new.self in
    let l = c.in_ok-line.line in
    let items = c.in_ok-line.ensures.items in
    let lists = lists_of c.strike.new.self in
    let atoms : n ≡ vec_len c.strike.new.self.woken = sym c.strike.ensures.atoms in
    let len = c.in_ok-line.ensures.len in
    let narrow : vec_len c.strike.new.self.woken ≤ 256 = omega (arith, self.narrow) in
    let few : vec_len c.pop.new.self ≤ 512 = omega (arith, self.few) in
    let below = below_front n ls l (subst (λ xs. T (all (rule_below n) (rules_of xs))) items self.below) in
    let before = struck n ls l (lists_of self.index) (subst (λ xs. lists_of self.index ≡ index_of n (rules_of xs)) items self.indexed) in
    let whole = before ∙ ap (λ xs. put_body (length ls) xs (index_of n (rules_of ls))) (sym c.body.ensures) in
    let same = c.strike.ensures.lists (length ls) (index_of n (rules_of ls)) whole in
    record {
      narrow = narrow;
      few = few;
      below = subst (λ k. T (all (rule_below k) (rules_of ls))) atoms below;
      indexed = subst (λ k. lists ≡ index_of k (rules_of ls)) atoms same;
    }

pub returns : goal.returns
returns c = record { lines = c.in_ok-line.ensures.items; atoms = c.strike.ensures.atoms }
