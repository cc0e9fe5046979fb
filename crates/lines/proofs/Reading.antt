-- A line that is read is the rule at its place.
use Rattle.std.proofs.Common.{◌≡◌, ℕ, ◌<◌, Bool, ◌||◌, T, ltb, List, [], ◌∷◌, map, length, get_or, sym, refl, ap, ◌∙◌, subst, arith}
use Rattle.std.proofs.lemmas.List.{get_or-map, length-map}
use Rattle.semantics.specs.Sets.{any, all}
use Rattle.semantics.specs.Rules.{rule_below, head_below}
use Rattle.semantics.proofs.Booleans.{and_right, all_each}
use Rattle.lines.specs.declared.line.Line.{Line}
use Rattle.lines.specs.Lines.{rule_of, rules_of, no_rule}
use Rattle.semantics.proofs.Members.{at_place}

pub rules_count : (ls : List Line) → length (rules_of ls) ≡ length ls
rules_count ls = length-map ls rule_of

pub rule_read : (ls : List Line) (i : ℕ) (l : Line) → i < length ls → l ≡ get_or ls i l → get_or (rules_of ls) i no_rule ≡ rule_of l
rule_read ls i l h e = get_or-map rule_of ls i l no_rule h ∙ ap rule_of (sym e)

pub rule_below_read : (n : ℕ) (ls : List Line) (i : ℕ) (l : Line) → i < length ls → l ≡ get_or ls i l → T (all (rule_below n) (rules_of ls)) → T (rule_below n (rule_of l))
rule_below_read n ls i l h e b =
    subst (λ r. T (rule_below n r)) (rule_read ls i l h e) (all_each (rule_below n) (rules_of ls) (get_or (rules_of ls) i no_rule) b (at_place no_rule (rules_of ls) i (omega (arith, rules_count ls))))

pub body_below_read : (n : ℕ) (ls : List Line) (i : ℕ) (l : Line) → i < length ls → l ≡ get_or ls i l → T (all (rule_below n) (rules_of ls)) → T (all (λ x. ltb x.atom n) (rule_of l).body)
body_below_read n ls i l h e b = and_right (head_below n l.head) (all (λ x. ltb x.atom n) (rule_of l).body) (rule_below_read n ls i l h e b)

pub any_map : {A B : Type 0} (p : B → Bool) (f : A → B) (xs : List A) → any p (map f xs) ≡ any (λ x. p (f x)) xs
any_map p f [] = refl
any_map p f (x ∷ xs) = ap (λ b. p (f x) || b) (any_map p f xs)
