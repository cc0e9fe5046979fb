-- What firing a line brings: each atom that comes into the model takes one place on the stack.
use Rattle.std.proofs.Common.{◌≡◌, ℕ, zero, suc, ◌+◌, ◌<◌, ◌≤◌, true, false, cond, not, ◌&&◌, T, eqb, List, [], ◌∷◌, length, get_or, set, sym, ap, ◌∙◌, subst, arith, ltb→lt}
use Rattle.std.proofs.lemmas.Bool.{ne_eqb}
use Rattle.std.proofs.lemmas.Bool.Decides.{nat_tests}
use Rattle.semantics.specs.declared.Head.TheVariants.{Atom}
use Rattle.semantics.specs.Rules.{Rule, body_holds, rule_below, head_below}
use Rattle.semantics.proofs.Booleans.{and_left}
use Rattle.derivation.specs.Worklist.{due, newly, absent}

pub absent-set : (s : List ℕ) (a : ℕ) → a < length s → (get_or s a 0 ≡ 1 → ⊥) → absent (set s a 1) + 1 ≡ absent s
absent-set [] a l h = absurd (omega arith)
absent-set (b ∷ s) zero l h = grind (arith, nat_tests)
absent-set (b ∷ s) (suc a) l h = let i = absent-set s a (omega arith) h in omega arith

pub head_within : (n : ℕ) (r : Rule) (h : ℕ) → Atom h ≡ r.head → T (rule_below n r) → h < n
head_within n r h e b = ltb→lt h n (subst (λ g. T (head_below n g)) (sym e) (and_left (head_below n r.head) _ b))

pub newly_head : (by model : List ℕ) (r : Rule) (h : ℕ) → Atom h ≡ r.head → (get_or model h 0 ≡ 1 → ⊥) → true ≡ body_holds model by r.body → newly by model r ≡ h ∷ []
newly_head by model r h e new b =
    ap (due model (body_holds model by r.body)) (sym e) ∙
    ap (λ x. cond (not x && body_holds model by r.body) (h ∷ []) []) (ne_eqb (get_or model h 0) 1 new) ∙
    ap (λ y. cond y (h ∷ []) []) (sym b)

pub absent_few : (s : List ℕ) → absent s ≤ length s
absent_few [] = omega arith
absent_few (b ∷ s) = let i = absent_few s in elim (eqb b 1) as (λ x. cond x 0 1 + absent s ≤ suc (length s)) [ true ↦ omega arith | false ↦ omega arith ]
