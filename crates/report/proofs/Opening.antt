-- A text that is accepted has an atom.
use Rattle.std.proofs.Common.{◌≡◌, ℕ, ◌<◌, Bool, true, false, cond, ◌||◌, eqb, ltb, List, [], length, Some, None, Ok, Err, Option, Result, refl, ap, arith}
use Rattle.std.proofs.lemmas.Bool.{eqb-false}
use Rattle.semantics.specs.Modules.{pair_table, Row as PairRow}
use Rattle.semantics.specs.Sheets.{Fault, fault, blank, lay, or_else, fault_if}
use Rattle.fields.specs.declared.field.Letter.TheVariants.{Atom}
use Rattle.fields.specs.Pieces.{lines_of}
use Rattle.records.specs.Reading.{then}
use Rattle.declarations.specs.Whole.{is_whole}
use Rattle.declarations.specs.Declaring.{Located, none_declared, declarations}
use Rattle.grammar.specs.Entering.{placing, laid, ruled}
use Rattle.grammar.specs.Texts.{Described, described, on_sheet, read_text}

-- what the two parts of an accepted text are
then_ok : {X Y E : Type 0} (r : Result X E) (next : X → Result Y E) (y : Y) → then r next ≡ Ok y → (x : X) × (r ≡ Ok x) × (next x ≡ Ok y)
then_ok (Ok x) next y e = (x, refl, e)
then_ok (Err refusal) next y e = absurd (let z : ◌≡◌ {A = ℕ} 0 1 = cc in omega arith)

cond_ok : {Y E : Type 0} (b : Bool) (r : Result Y E) (e : E) (y : Y) → cond b r (Err e) ≡ Ok y → r ≡ Ok y
cond_ok true r e y h = h
cond_ok false r e y h = absurd (let z : ◌≡◌ {A = ℕ} 0 1 = cc in omega arith)

placing_ok : (o : Option Fault) (place : Fault → Located) → placing o place ≡ Ok tt → o ≡ None
placing_ok None place e = refl
placing_ok (Some f) place e = absurd (let z : ◌≡◌ {A = ℕ} 0 1 = cc in omega arith)

-- no atoms are refused first
first_none : (b c : Bool) (rest : Option Fault) → or_else (fault_if 2 (b || c)) rest ≡ None → b ≡ false
first_none true c rest e = absurd (let z : ◌≡◌ {A = ℕ} 0 1 = cc in omega arith)
first_none false c rest e = refl

laid_some : (rows : List PairRow) (levels : List ℕ) → fault (blank (pair_table rows)) (lay levels) ≡ None → 0 < length levels
laid_some rows levels e = let n = eqb-false (length levels) 0 (first_none (eqb (length levels) 0) (ltb 256 (length levels)) _ e) in omega arith

pub some_atom : (text : List ℕ) (d : Described) → read_text text ≡ Ok d → 0 < length d.levels
some_atom text d e =
    let declared = then_ok (declarations none_declared Atom 0 (lines_of text)) on_sheet d (cond_ok (is_whole text) _ _ d e) in
    let p = declared.0 in
    let laying = then_ok (laid p.declared) _ d declared.2 in
    let entering = then_ok (ruled p.declared [] p.line p.rest) (λ rules. Ok (described p.declared rules)) d laying.2 in
    let is : described p.declared entering.0 ≡ d = cc in
    let some = laid_some p.declared.rows p.declared.levels (placing_ok _ _ laying.1) in
    omega (arith, ap (λ x. length x.levels) is)
