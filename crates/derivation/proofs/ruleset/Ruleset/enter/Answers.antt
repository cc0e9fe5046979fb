use Rattle.std.proofs.Common.{◌≡◌, ◌≤◌, T, ltb, [], ◌∷◌, ◌++◌, length, vec_items, vec_len, sym, ap, ◌∙◌, subst, arith}
use Rattle.semantics.specs.Sets.{all}
use Rattle.semantics.specs.Rules.{rule_below, head_below}
use Rattle.semantics.proofs.Booleans.{and_right}
use Rattle.derivation.specs.Indexing.{lists_of, put_body, index_of}
use Rattle.lines.specs.Lines.{rule_of, rules_of}
use Rattle.derivation.proofs.Keeping.{below_push, entered}
use Rattle.derivation.proofs.ruleset.Ruleset.enter.Goals as goal

pub enter-requires : goal.enter-requires
enter-requires c =
    let self = c.args.self.now in
    let n = vec_len self.index.woken in
    let ls = vec_items self.lines in
    let l = c.args.line in
    let below = and_right (head_below n l.head) (all (λ x. ltb x.atom n) (rule_of l).body) c.requires.below in
    subst (λ xs. T (all (λ x. ltb x.atom n) xs)) (sym c.body.ensures) below

pub invariant_of-self-2 : goal.invariant_of-self-2
invariant_of-self-2 c =
    let self = c.args.self.now in
    let n = vec_len self.index.woken in
    let ls = vec_items self.lines in
    let l = c.args.line in
    let after = vec_items c.push_reserved.new.self in
    let lists = lists_of c.enter.new.self in
    let n' = vec_len c.enter.new.self.woken in
    let atoms : n ≡ n' = sym c.in_ok-enter.ensures.atoms in
    let items : ls ++ l ∷ [] ≡ after = sym (c.push_reserved.ensures.items ∙ ap (λ xs. xs ++ l ∷ []) c.in_ok-reserve.ensures.items) in
    let kept = c.in_ok-reserve.ensures.len in
    let number : c.len.result ≡ length ls = omega (arith, c.len.ensures) in
    let len = c.push_reserved.ensures.len in
    let room = c.requires.few in
    let narrow : n' ≤ 256 = omega (arith, self.narrow) in
    let few : vec_len c.push_reserved.new.self ≤ 512 = omega arith in
    let below = below_push n ls l self.below c.requires.below in
    let step = c.in_ok-enter.ensures.lists ∙ ap (λ xs. put_body c.len.result xs (lists_of self.index)) c.body.ensures in
    let same = entered n ls l (lists_of self.index) lists c.len.result self.indexed number step in
    record {
      narrow = narrow;
      few = few;
      below = subst (λ k. T (all (rule_below k) (rules_of after))) atoms (subst (λ xs. T (all (rule_below n) (rules_of xs))) items below);
      indexed = subst (λ k. lists ≡ index_of k (rules_of after)) atoms (subst (λ xs. lists ≡ index_of n (rules_of xs)) items same);
    }

pub returns : goal.returns
returns c = record {
  lines = c.push_reserved.ensures.items ∙ ap (λ xs. xs ++ c.args.line ∷ []) c.in_ok-reserve.ensures.items;
  atoms = c.in_ok-enter.ensures.atoms;
}
