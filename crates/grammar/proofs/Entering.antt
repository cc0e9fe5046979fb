-- When a line or a bar is entered.
use Rattle.std.proofs.Common.{◌≡◌, ℕ, suc, ◌<◌, ◌≤◌, true, false, not, ltb, leb, List, [], ◌∷◌, length, Some, None, Ok, Option, refl, ap, ◌∙◌, arith}
use Rattle.std.proofs.lemmas.Bool.{ltb-true, ltb-false, lt-ltb, le-ltb, leb-false, lt-leb}
use Rattle.semantics.specs.declared.Head.{Head}
use Rattle.semantics.specs.declared.Head.TheVariants as heads
use Rattle.semantics.specs.declared.Literal.{Literal}
use Rattle.semantics.specs.Rules.{Rule, head_below}
use Rattle.semantics.specs.Modules.{pair_table}
use Rattle.semantics.specs.Sheets.{fault, anew, enter, line, or_else, fault_at, fault_if, level, above_head, literal_fault}
use Rattle.semantics.proofs.Sheets.{passes, test_fails, test_passes}
use Rattle.records.specs.Reading.{then, LineRecord}
use Rattle.declarations.specs.Declaring.{Declared}
use Rattle.grammar.specs.Entering.{placing, literals_of, enter_place, entered}
use Rattle.grammar.specs.Format.{BodyBelow}
use Rattle.grammar.proofs.Fitting.{placed_ok}
use Rattle.grammar.proofs.Wording.{then_ok}

-- every literal is the sheet's, and none is above the head
abbrev pub LiteralsFit : List ℕ → Head → List Literal → Type 0
LiteralsFit levels h [] = Unit {0}
LiteralsFit levels h (l ∷ ls) = (l.atom < length levels) × (above_head levels h l.atom ≡ false) × LiteralsFit levels h ls

literals_pass : (levels : List ℕ) (h : Head) (i : ℕ) (ls : List Literal) → LiteralsFit levels h ls → literal_fault levels h i ls ≡ None
literals_pass levels h i [] f = refl
literals_pass levels h i (l ∷ ls) f =
    let nine : not (ltb l.atom (length levels)) ≡ false = ap not (lt-ltb l.atom (length levels) f.0) in
    let rest = literals_pass levels h (suc i) ls f.2 in
    ap (λ t. or_else (fault_at 9 i t) (or_else (fault_at 10 i (above_head levels h l.atom)) (or_else (literal_fault levels h (suc i) ls) None))) nine
    ∙ ap (λ t. or_else (fault_at 10 i t) (or_else (literal_fault levels h (suc i) ls) None)) f.1
    ∙ ap (λ o. or_else o None) rest

or_none : {A : Type 0} (x y : Option A) → or_else x y ≡ None → (x ≡ None) × (y ≡ None)
or_none None y e = (refl, e)
or_none (Some x) y e = let z : ◌≡◌ {A = ℕ} 0 1 = cc in absurd (omega arith)

pass_literals : (levels : List ℕ) (h : Head) (i : ℕ) (ls : List Literal) → literal_fault levels h i ls ≡ None → LiteralsFit levels h ls
pass_literals levels h i [] e = tt
pass_literals levels h i (l ∷ ls) e =
    let nine = fault_at 9 i (not (ltb l.atom (length levels))) in
    let ten = fault_at 10 i (above_head levels h l.atom) in
    let rest = literal_fault levels h (suc i) ls in
    let a = or_none nine (or_else ten (or_else rest None)) e in
    let b = or_none ten (or_else rest None) a.1 in
    let c = or_none rest None b.1 in
    (ltb-true l.atom (length levels) (test_passes 9 i (ltb l.atom (length levels)) a.0), test_fails 10 i (above_head levels h l.atom) b.0, pass_literals levels h (suc i) ls c.0)

module _ (d : Declared) (rules : List Rule) (n : ℕ) (l : LineRecord) where
  pub fit_entered : 0 < length d.levels → length rules < 512 → head_below (length d.levels) l.head ≡ true → length (literals_of l.body) ≤ 8
      → LiteralsFit d.levels l.head (literals_of l.body) → entered d rules n l ≡ Ok (line l.head (literals_of l.body))
  fit_entered some room head short fit =
      let body = literals_of l.body in
      let one : not (ltb 0 (length d.levels)) ≡ false = ap not (lt-ltb 0 (length d.levels) some) in
      let six : leb 512 (length rules) ≡ false = lt-leb 512 (length rules) room in
      let seven : not (head_below (length d.levels) l.head) ≡ false = ap not head in
      let eight : ltb 8 (length body) ≡ false = le-ltb 8 (length body) short in
      let last = literals_pass d.levels l.head 0 body fit in
      ap (λ o. then (placing o (enter_place n l.body)) (λ _. Ok (line l.head body)))
      (ap (λ t. or_else (fault_if 1 t) (or_else (fault_if 6 (leb 512 (length rules))) (or_else (fault_if 7 (not (head_below (length d.levels) l.head))) (or_else (fault_if 8 (ltb 8 (length body))) (or_else (literal_fault d.levels l.head 0 body) None))))) one
      ∙ ap (λ t. or_else (fault_if 6 t) (or_else (fault_if 7 (not (head_below (length d.levels) l.head))) (or_else (fault_if 8 (ltb 8 (length body))) (or_else (literal_fault d.levels l.head 0 body) None)))) six
      ∙ ap (λ t. or_else (fault_if 7 t) (or_else (fault_if 8 (ltb 8 (length body))) (or_else (literal_fault d.levels l.head 0 body) None))) seven
      ∙ ap (λ t. or_else (fault_if 8 t) (or_else (literal_fault d.levels l.head 0 body) None)) eight
      ∙ ap (λ o. or_else o None) last)

  pub entered_fits : (rule : Rule) → entered d rules n l ≡ Ok rule
      → (line l.head (literals_of l.body) ≡ rule) × (length rules < 512) × (length (literals_of l.body) ≤ 8) × LiteralsFit d.levels l.head (literals_of l.body)
  entered_fits rule e =
      let body = literals_of l.body in
      let state = anew (pair_table d.rows) d.levels rules in
      let o = fault state (enter l.head body) in
      let p = then_ok (placing o (enter_place n l.body)) (λ _. Ok (line l.head body)) rule e in
      let none = placed_ok o (enter_place n l.body) p.1 in
      let w = passes state (enter l.head body) none in
      let six = test_fails 6 0 (leb 512 (length rules)) w.1.0 in
      let eight = test_fails 8 0 (ltb 8 (length body)) w.1.1.1.0 in
      let same : line l.head body ≡ rule = let q = p.2 in cc in
      (same, leb-false 512 (length rules) six, ltb-false 8 (length body) eight, pass_literals d.levels l.head 0 body w.1.1.1.1.0)

-- A LINE'S LITERALS AND ITS HEAD

pub below_fits : (levels : List ℕ) (h : ℕ) (ls : List Literal) → LiteralsFit levels heads.Bar ls → BodyBelow levels h ls → LiteralsFit levels (heads.Atom h) ls
below_fits levels h [] f b = tt
below_fits levels h (l ∷ ls) f b = (f.0, le-ltb (level levels h) (level levels l.atom) b.0, below_fits levels h ls f.2 b.1)

pub fits_below : (levels : List ℕ) (h : ℕ) (ls : List Literal) → LiteralsFit levels (heads.Atom h) ls → BodyBelow levels h ls
fits_below levels h [] f = tt
fits_below levels h (l ∷ ls) f = (ltb-false (level levels h) (level levels l.atom) f.1, fits_below levels h ls f.2)
