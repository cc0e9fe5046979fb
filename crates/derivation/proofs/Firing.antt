-- What firing a line, as the code does, brings to a deriving.
use Rattle.std.proofs.Common.{◌≡◌, ℕ, ◌+◌, ◌<◌, ◌≤◌, T, ◌⊎◌, List, ◌++◌, length, get_or, take, drop, sym, ap, ◌∙◌, subst, inl, inr, arith}
use Rattle.std.proofs.lemmas.List.{drop_more, drop_all}
use Rattle.std.proofs.lemmas.Bool.{cases_eq}
use Rattle.semantics.specs.Sets.{all, Canonical, ◌∈◌}
use Rattle.semantics.specs.Rules.{Rule, rule_below}
use Rattle.lines.specs.declared.line.Line.{Line}
use Rattle.lines.specs.Lines.{rule_of, rules_of}
use Rattle.derivation.specs.Worklist.{newly, joined_by, Underway, From, Nothing, Advances}
use Rattle.lines.proofs.Reading.{rule_read, rules_count}
use Rattle.derivation.proofs.Working.{start, fire}

module _ (ls : List Line) (by : List ℕ) (i : ℕ) (l : Line) (here : i < length ls) (read : l ≡ get_or ls i l) where
  pub fire_line : (todo todo' : ℕ → Type 0) → ((j : ℕ) → todo j → todo' j ⊎ (j ≡ i)) → (model pending model' pending' : List ℕ) →
      model' ≡ joined_by model (newly by model (rule_of l)) → pending' ≡ pending ++ newly by model (rule_of l) → Advances (rules_of ls) by todo todo' model pending model' pending'
  fire_line todo todo' less model pending model' pending' e f bare u =
      let r = rule_read ls i l here read in
      let v = fire (rules_of ls) by bare todo model pending u i (omega (arith, rules_count ls)) todo' less in
      let g = e ∙ ap (λ q. joined_by model (newly by model q)) (sym r) in
      let h = f ∙ ap (λ q. pending ++ newly by model q) (sym r) in
      rw (g, h) v

-- the rules from a place on
pub from_more : (i j : ℕ) → From i j → From (i + 1) j ⊎ (j ≡ i)
from_more i j l = elim (cases_eq j i) [ inl e ↦ inr e | inr other ↦ inl (omega arith) ]

-- the numbers from a place on
pub numbers_more : (numbers : List ℕ) (i j : ℕ) → i < length numbers → j ∈ drop i numbers → (j ∈ drop (i + 1) numbers) ⊎ (j ≡ get_or numbers i 0)
numbers_more numbers i j l h =
    let e = drop_more numbers i 0 l in
    elim (subst (λ xs. j ∈ xs) e h) [ inl here ↦ inr here | inr later ↦ inl later ]

pub numbers_done : (numbers : List ℕ) (i j : ℕ) → length numbers ≤ i → j ∈ drop i numbers → ⊥
numbers_done numbers i j l h = subst (λ xs. j ∈ xs) (drop_all i numbers l) h

-- from an empty stack and the bare atoms alone
pub from_start : (rs : List Rule) (by bare : List ℕ) → T (all (rule_below (length bare)) rs) → Canonical (length bare) bare → (len : ℕ) (entries : List ℕ) → len ≡ 0 → (m p model pending : List ℕ) →
    Advances rs by (From 0) Nothing bare (take len entries) m p → Advances rs by Nothing Nothing m p model pending → Underway rs by bare Nothing model pending
from_start rs by bare below canonical len entries e m p model pending first then =
    then bare (first bare (subst (λ k. Underway rs by bare (From 0) bare (take k entries)) (sym e) (start rs by bare below canonical)))
