-- The sheet that a text describes: it is laid after the declarations, and then takes the lines and bars one by one.
-- Its faults are those of the sheet's own calls; what is added here is where they point to.
use Rattle.std.specs.Prelude.{ℕ, ◌+◌, cond, List, [], ◌∷◌, ◌++◌, map, length, Some, None, Ok, Err, Option, Result, ◌==◌, slice_index}
use Rattle.semantics.specs.declared.Literal.{Literal}
use Rattle.semantics.specs.Rules.{Rule}
use Rattle.semantics.specs.Modules.{pair_table, Row as PairRow}
use Rattle.semantics.specs.Sheets.{Fault, fault, blank, anew, lay, enter, line}
use Rattle.fields.specs.declared.field.Letter.{Letter}
use Rattle.fields.specs.declared.field.Letter.TheVariants as letters
use Rattle.records.specs.declared.body.Placed.{Placed}
use Rattle.fields.specs.Pieces.{Field, fields_from}
use Rattle.records.specs.Reading.{then, opening, tail, LineRecord, line_by}
use Rattle.declarations.specs.Declaring.{Located, in_line, Declared}

-- a fault that was found is placed in the text
abbrev pub placing : Option Fault → (Fault → Located) → Result (Unit {0}) Located
placing None place = Ok tt
placing (Some f) place = Err (place f)

-- 5 points to the third name of its row, whose line comes after those of the atoms and of the rows before it;
-- a text without atoms has no place to point to
abbrev pub lay_place : ℕ → List ℕ → Fault → Located
lay_place atoms outs f =
    cond (f.number == 5)
    (record { number = f.number; line = atoms + f.place + 1; byte = slice_index outs f.place })
    (record { number = f.number; line = 0; byte = 0 })

-- laying the sheet with these rows and levels
abbrev pub laid_with : List PairRow → List ℕ → List ℕ → Result (Unit {0}) Located
laid_with rows levels outs = placing (fault (blank (pair_table rows)) (lay levels)) (lay_place (length levels) outs)

abbrev pub laid : Declared → Result (Unit {0}) Located
laid d = laid_with d.rows d.levels d.outs

abbrev pub literals_of : List Placed → List Literal
literals_of body = map (λ l. l.literal) body

-- where the literal at a place begins
abbrev pub byte_at : List Placed → ℕ → ℕ
byte_at body k = slice_index (map (λ l. l.byte) body) k

-- 8 points to the ninth literal, 10 to its literal, and every other fault to the letter
abbrev pub enter_byte : List Placed → Fault → ℕ
enter_byte body f = cond (f.number == 8) (byte_at body 8) (cond (f.number == 10) (byte_at body f.place) 0)

abbrev pub enter_place : ℕ → List Placed → Fault → Located
enter_place n body f = record { number = f.number; line = n; byte = enter_byte body f }

-- entering the line or the bar of line n, after those with the given rules
abbrev pub entered : Declared → List Rule → ℕ → LineRecord → Result Rule Located
entered d rules n l =
    then (placing (fault (anew (pair_table d.rows) d.levels rules) (enter l.head (literals_of l.body))) (enter_place n l.body))
    (λ _. Ok (line l.head (literals_of l.body)))

-- reading the line or the bar of line n, and entering it
abbrev pub entering : Declared → List Rule → ℕ → Letter → List Field → Result Rule Located
entering d rules n letter fs = then (in_line n (line_by letter d.names fs)) (entered d rules n)

-- the rules of the lines after line n, behind those before
abbrev pub ruled : Declared → List Rule → ℕ → List (List ℕ) → Result (List Rule) Located
ruled d rules n [] = Ok rules
ruled d rules n (l ∷ ls) =
    then (in_line (n + 1) (opening letters.Rule (fields_from 0 l))) (λ letter.
    then (entering d rules (n + 1) letter (tail (fields_from 0 l))) (λ rule. ruled d (rules ++ rule ∷ []) (n + 1) ls))
