use Rattle.std.proofs.Common.{◌≡◌, ◌≤◌, T, [], map, vec_items, vec_len, sym, ap, ◌∙◌, subst, arith}
use Rattle.semantics.specs.Sets.{all}
use Rattle.semantics.specs.Rules.{rule_below}
use Rattle.derivation.specs.Indexing.{no_lists, index_of}
use Rattle.lines.specs.Lines.{rules_of}
use Rattle.derivation.proofs.Waking.{index_none}
use Rattle.derivation.proofs.ruleset.Ruleset.empty.Goals as goal

pub invariant_of-result : goal.invariant_of-result
invariant_of-result c =
    let woken = c.new.result in
    let n = vec_len woken in
    let none = c.new-lines.ensures.items in
    let atoms : n ≡ 0 = c.new.ensures.len in
    let len = c.new-lines.ensures.len in
    let narrow : n ≤ 256 = omega arith in
    let few : vec_len c.new-lines.result ≤ 512 = omega arith in
    let empty : T (all (rule_below n) (rules_of [])) = tt in
    let same : map vec_items (vec_items woken) ≡ index_of n [] = ap (map vec_items) c.new.ensures.items ∙ ap no_lists (sym atoms) ∙ sym (index_none n) in
    record {
      narrow = narrow;
      few = few;
      below = subst (λ xs. T (all (rule_below n) (rules_of xs))) (sym none) empty;
      indexed = subst (λ xs. map vec_items (vec_items woken) ≡ index_of n (rules_of xs)) (sym none) same;
    }
