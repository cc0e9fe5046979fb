use Rattle.std.proofs.Common.{◌≡◌, ◌≤◌, T, [], vec_len, sym, ap, ◌∙◌, subst, arith}
use Rattle.semantics.specs.Sets.{all}
use Rattle.semantics.specs.Rules.{rule_below}
use Rattle.derivation.specs.Indexing.{lists_of, no_lists, index_of}
use Rattle.lines.specs.Lines.{rules_of}
use Rattle.derivation.proofs.Waking.{index_none, atoms_count}
use Rattle.derivation.proofs.ruleset.Ruleset.new.Goals as goal

pub invariant_of-result : goal.invariant_of-result
invariant_of-result c =
    let ix = c.in_ok-index.index in
    let n = vec_len ix.woken in
    let e = c.in_ok-index.ensures in
    let none = c.new-lines.ensures.items in
    let len = c.new-lines.ensures.len in
    let atoms : c.args.atoms ≡ n = sym (atoms_count ix c.args.atoms e) in
    let narrow : n ≤ 256 = omega (arith, c.requires) in
    let few : vec_len c.new-lines.result ≤ 512 = omega arith in
    let empty : T (all (rule_below n) (rules_of [])) = tt in
    let same : lists_of ix ≡ index_of n [] = e ∙ ap no_lists atoms ∙ sym (index_none n) in
    record {
      narrow = narrow;
      few = few;
      below = subst (λ xs. T (all (rule_below n) (rules_of xs))) (sym none) empty;
      indexed = subst (λ xs. lists_of ix ≡ index_of n (rules_of xs)) (sym none) same;
    }

pub returns : goal.returns
returns c = (c.new-lines.ensures.items, atoms_count c.in_ok-index.index c.args.atoms c.in_ok-index.ensures)
