-- Loading a whole text.
use Rattle.std.proofs.Common.{◌≡◌, ℕ, ◌≤◌, Bool, cond, List, [], length, Ok, Err, Result, sym, ap, ◌∙◌, subst, ⊎_elim, arith}
use Rattle.modules.specs.declared.rows.PairTable.{PairTable}
use Rattle.sheet.specs.declared.paper.Sheet.{Sheet}
use Rattle.fields.specs.declared.field.Letter.{Letter}
use Rattle.fields.specs.declared.field.Letter.TheVariants.{Atom}
use Rattle.fields.specs.declared.names.Names.{Names}
use Rattle.records.specs.declared.refusal.Refused.{Refused}
use Rattle.fields.specs.Pieces.{lines_of}
use Rattle.records.specs.Reading.{then}
use Rattle.fields.specs.Shown.{declared}
use Rattle.declarations.specs.Whole.{is_whole}
use Rattle.declarations.specs.Declaring.{Declared, none_declared, Declarations, declarations}
use Rattle.grammar.specs.Entering.{laid_with, laid, ruled}
use Rattle.grammar.specs.Format.{rendered, meant, Written}
use Rattle.grammar.specs.Texts.{Described, described, on_sheet, read_lines, read_text}
use Rattle.grammar.proofs.Accepting.{accepted_is_rendered}
use Rattle.grammar.proofs.Rendering.{rendered_is_accepted}
use Rattle.text.specs.Sheets.{EntersAll, Loads, Answers, Settles}
use Rattle.text.specs.declared.loaded.Loaded.{Loaded}
use Rattle.declarations.specs.Shown.{RefusedBy, located}
use Rattle.declarations.proofs.Declarations.{refused_same, refused_then}

-- after the declarations
pub declared_text : (text : List ℕ) (d : Declared) (last : Letter) (n : ℕ) (ls : List (List ℕ)) (p : Declarations) → d ≡ none_declared → last ≡ Atom → n ≡ 0
    → ls ≡ lines_of text → declarations d last n ls ≡ Ok p → read_lines (lines_of text) ≡ on_sheet p
declared_text text d last n ls p e l k s h =
    let begin : declarations none_declared Atom 0 (lines_of text) ≡ declarations d last n ls =
    sym (ap (λ x. declarations x last n ls) e ∙ ap (λ x. declarations none_declared x n ls) l ∙ ap (λ x. declarations none_declared Atom x ls) k ∙ ap (declarations none_declared Atom 0) s) in
    ap (λ r. then r on_sheet) (begin ∙ h)

module _ (text : List ℕ) (p : Declarations) (read : read_lines (lines_of text) ≡ on_sheet p) where
  -- refused while it was laid
  pub not_laid : (levels outs : List ℕ) (e : Refused) → levels ≡ p.declared.levels → outs ≡ p.declared.outs
      → RefusedBy (laid_with p.declared.rows levels outs) e → RefusedBy (read_lines (lines_of text)) e
  not_laid levels outs e l o h =
      let d = p.declared in
      let same : laid_with d.rows levels outs ≡ laid d = ap (λ ls. laid_with d.rows ls outs) l ∙ ap (laid_with d.rows d.levels) o in
      let go = λ (u : Unit {0}). then (ruled d [] p.line p.rest) (λ rules. Ok (described d rules)) in
      refused_same (on_sheet p) (read_lines (lines_of text)) e (sym read) (refused_then (laid d) go e (refused_same (laid_with d.rows levels outs) (laid d) e same h))

  module _ (levels outs : List ℕ) (l : levels ≡ p.declared.levels) (o : outs ≡ p.declared.outs) (ok : laid_with p.declared.rows levels outs ≡ Ok tt) where
    entering_text : read_lines (lines_of text) ≡ then (ruled p.declared [] p.line p.rest) (λ rules. Ok (described p.declared rules))
    entering_text =
        let d = p.declared in
        let same : laid d ≡ Ok tt = sym (ap (λ ls. laid_with d.rows ls outs) l ∙ ap (laid_with d.rows d.levels) o) ∙ ok in
        read ∙ ap (λ r. then r (λ _. then (ruled d [] p.line p.rest) (λ rules. Ok (described d rules)))) same

    -- refused while the lines were entered
    pub not_ruled : (e : Refused) → RefusedBy (ruled p.declared [] p.line p.rest) e → RefusedBy (read_lines (lines_of text)) e
    not_ruled e h =
        let d = p.declared in
        refused_same (then (ruled d [] p.line p.rest) (λ rules. Ok (described d rules))) (read_lines (lines_of text)) e (sym entering_text)
        (refused_then (ruled d [] p.line p.rest) (λ rules. Ok (described d rules)) e h)

    pub loads : (sheet : Sheet PairTable) (names : Names) → declared names ≡ p.declared.names → EntersAll p.declared (ruled p.declared [] p.line p.rest) sheet (Ok tt)
        → Answers (read_lines (lines_of text)) (Ok (record { sheet = sheet; names = names }))
    loads sheet names same entered =
        let d = p.declared in
        (described d entered.0, entering_text ∙ ap (λ r. then r (λ rules. Ok (described d rules))) entered.1, record { names_are = same; sheet_holds = entered.2 })

-- THE LAW

-- the answer for a whole text, and for one that is not
pub whole_answer : (text : List ℕ) (b : Bool) (r : Result Loaded Refused) → b ≡ is_whole text → Answers (cond b (read_lines (lines_of text)) (Err (record { number = 27; line = 0; byte = 0 }))) r
    → Answers (read_text text) r
whole_answer text b r e h =
    let A : Bool → Type 0 = λ x. Answers (cond x (read_lines (lines_of text)) (Err (record { number = 27; line = 0; byte = 0 }))) r in
    subst A e h

-- the answer settles whether the text is the rendering of valid records
pub settled : (text : List ℕ) (r : Result Loaded Refused) → Answers (read_text text) r → Settles text r
settled text (Ok loaded) h =
    let w = accepted_is_rendered text h.0 h.1 in
    let L : Described → Type 0 = λ d. Loads d loaded in
    (w.0, w.1, w.2, w.3, subst L w.4 h.2)
settled text (Err e) h = λ w. ⊎_elim (λ refused. absurd (never w refused)) (λ none. none) h
  where
    never : Written text → read_text text ≡ Err (located e) → ⊥
    never w refused =
        let short : length (rendered w.0) ≤ 65536 = let l = w.3 in let s = ap length w.2 in omega arith in
        let accepted : read_text text ≡ Ok (meant w.0) = ap read_text w.2 ∙ rendered_is_accepted w.0 w.1 short in
        let z : ◌≡◌ {A = ℕ} 0 1 = cc in
        omega arith
