-- The index kept in step with the lines, as the last one comes and goes.
use Rattle.std.proofs.Common.{◌≡◌, ℕ, ◌<◌, T, List, [], ◌∷◌, ◌++◌, length, get_or, vec_items, sym, ap, ◌∙◌, subst, arith}
use Rattle.std.proofs.lemmas.List.{map_push}
use Rattle.semantics.specs.Sets.{all, ◌∈◌}
use Rattle.semantics.specs.Rules.{rule_below}
use Rattle.semantics.proofs.Booleans.{and_left, and_right, and_from}
use Rattle.lines.specs.declared.line.Line.{Line}
use Rattle.derivation.specs.declared.ruleset.Ruleset.{Ruleset}
use Rattle.derivation.specs.Indexing.{lists_of, put_body, index_of, Indexed}
use Rattle.derivation.specs.Rulesets.{rules_in, atoms_in}
use Rattle.lines.specs.Lines.{rule_of, rules_of}
use Rattle.derivation.proofs.Waking.{indexed, index_push}
use Rattle.semantics.proofs.Members.{at_place}
use Rattle.lines.proofs.Reading.{rules_count, rule_below_read}

-- every rule, and the last one
module _ (n : ℕ) where
  pub below_push : (ls : List Line) (l : Line) → T (all (rule_below n) (rules_of ls)) → T (rule_below n (rule_of l)) → T (all (rule_below n) (rules_of (ls ++ l ∷ [])))
  below_push [] l h k = and_from (rule_below n (rule_of l)) (all (rule_below n) []) k tt
  below_push (x ∷ ls) l h k =
      and_from (rule_below n (rule_of x)) (all (rule_below n) (rules_of (ls ++ l ∷ []))) (and_left (rule_below n (rule_of x)) (all (rule_below n) (rules_of ls)) h)
      (below_push ls l (and_right (rule_below n (rule_of x)) (all (rule_below n) (rules_of ls)) h) k)

  pub below_front : (ls : List Line) (l : Line) → T (all (rule_below n) (rules_of (ls ++ l ∷ []))) → T (all (rule_below n) (rules_of ls))
  below_front [] l h = tt
  below_front (x ∷ ls) l h =
      and_from (rule_below n (rule_of x)) (all (rule_below n) (rules_of ls)) (and_left (rule_below n (rule_of x)) (all (rule_below n) (rules_of (ls ++ l ∷ []))) h)
      (below_front ls l (and_right (rule_below n (rule_of x)) (all (rule_below n) (rules_of (ls ++ l ∷ []))) h))

  pub below_last : (ls : List Line) (l : Line) → T (all (rule_below n) (rules_of (ls ++ l ∷ []))) → T (rule_below n (rule_of l))
  below_last [] l h = and_left (rule_below n (rule_of l)) (all (rule_below n) []) h
  below_last (x ∷ ls) l h = below_last ls l (and_right (rule_below n (rule_of x)) (all (rule_below n) (rules_of (ls ++ l ∷ []))) h)

  module _ (ls : List Line) (l : Line) where
    one_more : index_of n (rules_of (ls ++ l ∷ [])) ≡ put_body (length ls) (rule_of l).body (index_of n (rules_of ls))
    one_more = ap (index_of n) (map_push rule_of ls l) ∙ index_push n (rules_of ls) (rule_of l) ∙ ap (λ j. put_body j (rule_of l).body (index_of n (rules_of ls))) (rules_count ls)

    pub entered : (lists lists' : List (List ℕ)) (j : ℕ) → lists ≡ index_of n (rules_of ls) → j ≡ length ls → lists' ≡ put_body j (rule_of l).body lists → lists' ≡ index_of n (rules_of (ls ++ l ∷ []))
    entered lists lists' j same e step = step ∙ ap (λ k. put_body k (rule_of l).body lists) e ∙ ap (put_body (length ls) (rule_of l).body) same ∙ sym one_more

    pub struck : (lists : List (List ℕ)) → lists ≡ index_of n (rules_of (ls ++ l ∷ [])) → lists ≡ put_body (length ls) (rule_of l).body (index_of n (rules_of ls))
    struck lists same = same ∙ one_more

-- what a ruleset keeps of its index and of each of its lines
module _ (x : Ruleset) where
  pub kept : Indexed (atoms_in x) (rules_in x) (lists_of x.index)
  kept = subst (Indexed (atoms_in x) (rules_in x)) (sym x.indexed) (indexed (atoms_in x) (rules_in x) x.below)

  pub woken_line : (a i : ℕ) (numbers : List ℕ) → numbers ≡ get_or (lists_of x.index) a [] → i < length numbers → get_or numbers i 0 < length (vec_items x.lines)
  woken_line a i numbers e h =
      let named = kept.named a (get_or numbers i 0) (subst (λ xs. get_or numbers i 0 ∈ xs) e (at_place 0 numbers i h)) in
      omega (arith, rules_count (vec_items x.lines))

  pub line_below : (n i : ℕ) (l : Line) → n ≡ atoms_in x → i < length (vec_items x.lines) → l ≡ get_or (vec_items x.lines) i l → T (rule_below n (rule_of l))
  line_below n i l e h read = subst (λ k. T (rule_below k (rule_of l))) (sym e) (rule_below_read (atoms_in x) (vec_items x.lines) i l h read x.below)
