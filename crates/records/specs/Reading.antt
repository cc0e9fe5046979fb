-- Reading a record's fields against the names declared so far: what they say, or the first fault.
use Rattle.std.specs.Prelude.{ℕ, cond, List, [], ◌∷◌, ◌++◌, length, is_some, Some, None, Ok, Err, Option, Result, nat_lt}
use Rattle.std.specs.Option.{ok_or}
use Rattle.faults.specs.declared.Fault.{Fault}
use Rattle.faults.specs.declared.Fault.TheVariants.{LevelCount, UnknownLetter, MalformedName, UnknownName, NameTwice, OutOfOrder, BadLevel, FieldCount}
use Rattle.semantics.specs.declared.Head.{Head}
use Rattle.semantics.specs.declared.Head.TheVariants as heads
use Rattle.semantics.specs.Modules.{Row as PairRow}
use Rattle.records.specs.declared.refusal.Refusal.{Refusal}
use Rattle.fields.specs.declared.field.Letter.{Letter}
use Rattle.fields.specs.declared.field.Letter.TheVariants.{Atom, Row, Rule, Bar}
use Rattle.records.specs.declared.body.Placed.{Placed}
use Rattle.fields.specs.Pieces.{Field}
use Rattle.fields.specs.Words.{is_name, letter_of, level_of, side_of, name_of}
use Rattle.fields.specs.Places.{place_of}

-- a fault, and the byte of the line where the field that it points to begins
abbrev pub at_byte : Fault → ℕ → Refusal
at_byte fault byte = record { fault = fault; byte = byte }

-- one check after another: the first refusal stands
abbrev pub then : {X Y E : Type 0} → Result X E → (X → Result Y E) → Result Y E
then (Ok x) next = next x
then (Err refusal) next = Err refusal

-- the atom that a declared name stands for
abbrev pub known : List (List ℕ) → Field → Result ℕ Refusal
known names f = cond (is_name f.bytes) (ok_or (place_of names f.bytes) (at_byte UnknownName f.at)) (Err (at_byte MalformedName f.at))

-- a name that is not declared yet
abbrev pub unused : List (List ℕ) → Field → Result (Unit {0}) Refusal
unused names f = cond (is_name f.bytes) (cond (is_some (place_of names f.bytes)) (Err (at_byte NameTwice f.at)) (Ok tt)) (Err (at_byte MalformedName f.at))

abbrev pub leveled : Field → Result ℕ Refusal
leveled f = ok_or (level_of f.bytes) (at_byte BadLevel f.at)

-- a literal, by the name behind its minus; its place is that of the minus
abbrev pub literal_in : List (List ℕ) → Field → Result Placed Refusal
literal_in names f =
    then (known names (record { bytes = name_of f.bytes; at = f.at }))
    (λ atom. Ok (record { literal = record { atom = atom; side = side_of f.bytes }; byte = f.at }))

-- the literals of a body, in their order
abbrev pub literals : List (List ℕ) → List Field → Result (List Placed) Refusal
literals names [] = Ok []
literals names (f ∷ fs) = then (literal_in names f) (λ literal. then (literals names fs) (λ rest. Ok (literal ∷ rest)))

-- THE FOUR KINDS OF RECORDS

-- an atom's name and its level
pub record AtomRecord : Type 0 where
  pub name : List ℕ
  pub level : ℕ

-- a row of the pair table, and the byte where its third name begins
pub record RowRecord : Type 0 where
  pub row : PairRow
  pub out : ℕ

-- the head and the body of a line or a bar
pub record LineRecord : Type 0 where
  pub head : Head
  pub body : List Placed

-- the wrong number of fields points to the letter
abbrev pub miscounted : {X : Type 0} → Result X Refusal
miscounted = Err (at_byte FieldCount 0)

-- an atom that is well written, with its number still to be had
abbrev pub atom_fields : List (List ℕ) → Field → Field → Result AtomRecord Refusal
atom_fields names name level = then (unused names name) (λ _. then (leveled level) (λ l. Ok (record { name = name.bytes; level = l })))

-- a,NAME,LEVEL: there are at most 256 atoms, and one more points to the letter
abbrev pub atom_record : List (List ℕ) → List Field → Result AtomRecord Refusal
atom_record names [] = miscounted
atom_record names (f ∷ []) = miscounted
atom_record names (name ∷ level ∷ []) = then (atom_fields names name level) (λ a. cond (nat_lt (length names) 256) (Ok a) (Err (at_byte LevelCount 0)))
atom_record names (f ∷ g ∷ h ∷ fs) = miscounted

-- p,FIRST,SECOND,OUT
abbrev pub row_record : List (List ℕ) → List Field → Result RowRecord Refusal
row_record names [] = miscounted
row_record names (f ∷ []) = miscounted
row_record names (f ∷ g ∷ []) = miscounted
row_record names (first ∷ second ∷ out ∷ []) =
    then (known names first) (λ a.
    then (known names second) (λ b.
    then (known names out) (λ c.
    Ok (record { row = record { one = a; other = b; to = c }; out = out.at }))))
row_record names (f ∷ g ∷ h ∷ k ∷ fs) = miscounted

-- r,HEAD,LITERAL..
abbrev pub line_record : List (List ℕ) → List Field → Result LineRecord Refusal
line_record names [] = miscounted
line_record names (head ∷ fs) = then (known names head) (λ h. then (literals names fs) (λ body. Ok (record { head = heads.Atom h; body = body })))

-- b,LITERAL..
abbrev pub bar_record : List (List ℕ) → List Field → Result LineRecord Refusal
bar_record names fs = then (literals names fs) (λ body. Ok (record { head = heads.Bar; body = body }))

-- a record with the letter r has a head, and one with the letter b has none
abbrev pub line_by : Letter → List (List ℕ) → List Field → Result LineRecord Refusal
line_by Rule names fs = line_record names fs
line_by Bar names fs = bar_record names fs
line_by Atom names fs = bar_record names fs
line_by Row names fs = bar_record names fs

-- the names declared once an atom's record was read
abbrev pub with_name : List (List ℕ) → Result AtomRecord Refusal → List (List ℕ)
with_name names (Ok a) = names ++ a.name ∷ []
with_name names (Err refusal) = names

-- THE LETTER

-- atoms come first, then rows, then lines and bars
abbrev pub rank_of : Letter → ℕ
rank_of Atom = 0
rank_of Row = 1
rank_of Rule = 2
rank_of Bar = 2

-- a letter that is none, and one that comes too late after the last record's
abbrev pub ordered : Letter → Option Letter → Result Letter Refusal
ordered last None = Err (at_byte UnknownLetter 0)
ordered last (Some letter) = cond (nat_lt (rank_of letter) (rank_of last)) (Err (at_byte OutOfOrder 0)) (Ok letter)

-- the letter that opens a record
abbrev pub opening : Letter → List Field → Result Letter Refusal
opening last [] = ordered last None
opening last (field ∷ fs) = ordered last (letter_of field.bytes)

abbrev pub tail : List Field → List Field
tail [] = []
tail (field ∷ fs) = fs
