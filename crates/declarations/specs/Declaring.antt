-- The declarations of a text: its atoms and the rows of its pair table, line by line, up to the first line or bar.
use Rattle.std.specs.Prelude.{ℕ, ◌+◌, Bool, true, false, cond, List, [], ◌∷◌, ◌++◌, length, Ok, Err, Result, nat_le}
use Rattle.faults.specs.Faults.{number_of}
use Rattle.faults.specs.declared.Fault.TheVariants.{TableFull}
use Rattle.semantics.specs.Modules.{Row as PairRow}
use Rattle.records.specs.declared.refusal.Refusal.{Refusal}
use Rattle.fields.specs.declared.field.Letter.{Letter}
use Rattle.fields.specs.declared.field.Letter.TheVariants.{Atom, Row, Rule, Bar}
use Rattle.fields.specs.Pieces.{Field, fields_from}
use Rattle.records.specs.Reading.{then, at_byte, opening, tail, AtomRecord, RowRecord, atom_record, row_record}

-- a fault by its number, with its line, from 1, and the byte of that line, from 0
pub record Located : Type 0 where
  pub number : ℕ
  pub line : ℕ
  pub byte : ℕ

-- a refusal, with the number of its line
abbrev pub in_line : {X : Type 0} → ℕ → Result X Refusal → Result X Located
in_line n (Ok x) = Ok x
in_line n (Err refusal) = Err (record { number = number_of refusal.fault; line = n; byte = refusal.byte })

-- the names and the levels of the atoms, the rows, and for each row the byte of its line where its third name begins
pub record Declared : Type 0 where
  pub names : List (List ℕ)
  pub levels : List ℕ
  pub rows : List PairRow
  pub outs : List ℕ

abbrev pub none_declared : Declared
none_declared = record { names = []; levels = []; rows = []; outs = [] }

abbrev pub with_atom : Declared → AtomRecord → Declared
with_atom d a = record { names = d.names ++ a.name ∷ []; levels = d.levels ++ a.level ∷ []; rows = d.rows; outs = d.outs }

abbrev pub with_row : Declared → RowRecord → Declared
with_row d r = record { names = d.names; levels = d.levels; rows = d.rows ++ r.row ∷ []; outs = d.outs ++ r.out ∷ [] }

-- there are at most 64 rows, and one more points to the letter
abbrev pub room_for : Declared → RowRecord → Result Declared Refusal
room_for d r = cond (nat_le 64 (length d.rows)) (Err (at_byte TableFull 0)) (Ok (with_row d r))

-- one more declaration
abbrev pub declaration : Letter → Declared → List Field → Result Declared Refusal
declaration Atom d fs = then (atom_record d.names fs) (λ a. Ok (with_atom d a))
declaration Row d fs = then (row_record d.names fs) (room_for d)
declaration Rule d fs = then (row_record d.names fs) (room_for d)
declaration Bar d fs = then (row_record d.names fs) (room_for d)

-- atoms and rows are declarations, lines and bars are none
abbrev pub declares : Letter → Bool
declares Atom = true
declares Row = true
declares Rule = false
declares Bar = false

-- what is declared, how many lines that took, and the lines from the first line or bar on
pub record Declarations : Type 0 where
  pub declared : Declared
  pub line : ℕ
  pub rest : List (List ℕ)

-- the declarations in the lines after line n, which come after a record with the letter `last`
abbrev pub declarations : Declared → Letter → ℕ → List (List ℕ) → Result Declarations Located
declarations d last n [] = Ok (record { declared = d; line = n; rest = [] })
declarations d last n (l ∷ ls) =
    then (in_line (n + 1) (opening last (fields_from 0 l))) (λ letter.
    cond (declares letter)
    (then (in_line (n + 1) (declaration letter d (tail (fields_from 0 l)))) (λ more. declarations more letter (n + 1) ls))
    (Ok (record { declared = d; line = n; rest = l ∷ ls })))
