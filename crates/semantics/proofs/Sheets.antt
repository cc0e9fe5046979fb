-- What a call that passes its checks has shown.
use Rattle.std.proofs.Common.{◌≡◌, ℕ, zero, suc, ◌<◌, Bool, true, false, cond, not, T, ltb, List, [], ◌∷◌, length, Some, None, Option, refl, inl, inr, arith}
use Rattle.std.specs.List.{AllByRecursion}
use Rattle.std.proofs.lemmas.Bool.{cases_eq, not-false, ltb-true}
use Rattle.semantics.specs.declared.Head.{Head}
use Rattle.semantics.specs.declared.Literal.{Literal}
use Rattle.semantics.specs.Sets.{all}
use Rattle.semantics.specs.Rules.{rule_below, head_below}
use Rattle.semantics.specs.Banks.{Lawful}
use Rattle.semantics.specs.Plans.{WellFormed}
use Rattle.semantics.specs.Sheets.{State, Fault, lay, enter, strike, or_else, lowest, first_of, fault_at, fault_found, above_head, literal_fault, checks, fault, atoms, program, line, moved}
use Rattle.semantics.proofs.Booleans.{holds, and_from, all_both, all_taken}

-- no fault: none by any check
none_of : {A : Type 0} (x y : Option A) → or_else x y ≡ None → (x ≡ None) × (y ≡ None)
none_of None y e = (refl, e)
none_of (Some x) y e = (cc, cc)

checks_pass : (cs : List (Option Fault)) → first_of cs ≡ None → AllByRecursion (λ c. c ≡ None) cs
checks_pass [] e = tt
checks_pass (c ∷ cs) e = let w = none_of c (first_of cs) e in (w.0, checks_pass cs w.1)

pub passes : (st : State) (c : _) → fault st c ≡ None → AllByRecursion (λ o. o ≡ None) (checks st c)
passes st c e = checks_pass (checks st c) e

pub test_fails : (number place : ℕ) (b : Bool) → fault_at number place b ≡ None → b ≡ false
test_fails number place true e = cc
test_fails number place false e = refl

pub test_passes : (number place : ℕ) (b : Bool) → fault_at number place (not b) ≡ None → b ≡ true
test_passes number place b e = not-false b (test_fails number place (not b) e)

nothing_found : (number : ℕ) (o : Option ℕ) → fault_found number o ≡ None → o ≡ None
nothing_found number None e = refl
nothing_found number (Some k) e = cc

found_here : (b : Bool) (k : ℕ) → cond b (Some k) None ≡ None → b ≡ false
found_here true k e = cc
found_here false k e = refl

lowest_none : (test : ℕ → Bool) (n : ℕ) → lowest test n ≡ None → (k : ℕ) → k < n → test k ≡ false
lowest_none test zero e k l = absurd (omega arith)
lowest_none test (suc n) e k l =
    let w = none_of (lowest test n) (cond (test n) (Some n) None) e in
    elim (cases_eq k n) [
      | inl here ↦ rw here (found_here (test n) n w.1)
      | inr other ↦ lowest_none test n w.0 k (omega arith)
    ]

literals_below : (levels : List ℕ) (h : Head) (i : ℕ) (ls : List Literal) → literal_fault levels h i ls ≡ None → T (all (λ l. ltb l.atom (length levels)) ls)
literals_below levels h i [] e = tt
literals_below levels h i (l ∷ ls) e =
    let w = checks_pass (fault_at 9 i (not (ltb l.atom (length levels))) ∷ fault_at 10 i (above_head levels h l.atom) ∷ literal_fault levels h (suc i) ls ∷ []) e in
    and_from (ltb l.atom (length levels)) (all (λ l. ltb l.atom (length levels)) ls)
    (holds (ltb l.atom (length levels)) (test_passes 9 i (ltb l.atom (length levels)) w.0))
    (literals_below levels h (suc i) ls w.1.1.0)

-- the sheet stays well formed
module _ (st : State) where
  pub lay_forms : (levels : List ℕ) → Lawful st.bank → fault st (lay levels) ≡ None → WellFormed (program (moved st (lay levels)))
  lay_forms levels lawful e =
      let w = passes st (lay levels) e in
      record {
        rules_below = tt;
        bank_below = λ k l. ltb-true (st.bank.atom k) (length levels)
            (not-false (ltb (st.bank.atom k) (length levels)) (lowest_none (λ k. not (ltb (st.bank.atom k) (length levels))) st.bank.outputs (nothing_found 4 _ w.1.1.0) k l));
        bank_lawful = lawful;
      }

  -- the atoms of a line that is entered are the sheet's
  pub enter_below : (h : Head) (body : List Literal) → fault st (enter h body) ≡ None → T (rule_below (atoms st) (line h body))
  enter_below h body e =
      let w = passes st (enter h body) e in
      and_from (head_below (atoms st) h) (all (λ l. ltb l.atom (atoms st)) body)
      (holds (head_below (atoms st) h) (test_passes 7 0 (head_below (atoms st) h) w.1.1.0))
      (literals_below st.levels h 0 body w.1.1.1.1.0)

  pub enter_forms : (h : Head) (body : List Literal) → WellFormed (program st) → fault st (enter h body) ≡ None → WellFormed (program (moved st (enter h body)))
  enter_forms h body ok e = record {
    rules_below = all_both (rule_below (atoms st)) st.rules (line h body ∷ []) ok.rules_below (and_from (rule_below (atoms st) (line h body)) true (enter_below h body e) tt);
    bank_below = ok.bank_below;
    bank_lawful = ok.bank_lawful;
  }

  pub strike_forms : WellFormed (program st) → WellFormed (program (moved st strike))
  strike_forms ok = record {
    rules_below = all_taken (rule_below (atoms st)) _ st.rules ok.rules_below;
    bank_below = ok.bank_below;
    bank_lawful = ok.bank_lawful;
  }
