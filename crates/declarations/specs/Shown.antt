-- What the reader and what it has gathered stand for, and what its steps promise.
use Rattle.std.specs.Prelude.{◌≡◌, ℕ, ◌+◌, cond, ◌⊎◌, List, [], ◌∷◌, drop, Some, None, Ok, Err, vec_items, Option, Result}
use Rattle.faults.specs.Faults.{number_of}
use Rattle.faults.specs.declared.Fault.TheVariants.{Memory}
use Rattle.modules.specs.Tables.{rows_of}
use Rattle.fields.specs.declared.field.Letter.{Letter}
use Rattle.fields.specs.declared.part.Fields.{Fields}
use Rattle.records.specs.declared.refusal.Refusal.{Refusal}
use Rattle.records.specs.declared.refusal.Refused.{Refused}
use Rattle.fields.specs.Pieces.{Field, lines_of, fields_from}
use Rattle.records.specs.Reading.{then, opening, tail}
use Rattle.fields.specs.Shown.{left, declared}
use Rattle.declarations.specs.declared.reader.Reader.{Reader}
use Rattle.declarations.specs.declared.preamble.Preamble.{Preamble}
use Rattle.declarations.specs.Declaring.{Located, in_line, Declared, declaration, declares, Declarations}

-- REFUSALS

-- a refusal by its number and place
abbrev pub located : Refused → Located
located e = record { number = number_of e.fault; line = e.line; byte = e.byte }

-- want of memory has no place
abbrev pub no_memory : Refused
no_memory = record { fault = Memory; line = 0; byte = 0 }

-- the refusal is the one that is described, or there was no memory
abbrev pub RefusedBy : {X : Type 0} → Result X Located → Refused → Type 0
RefusedBy answer e = (answer ≡ Err (located e)) ⊎ (e ≡ no_memory)

-- a refusal of the record in line n
abbrev pub PlacedIn : ℕ → Refusal → Refused → Type 0
PlacedIn n refusal e = (located e ≡ record { number = number_of refusal.fault; line = n; byte = refusal.byte }) ⊎ (e ≡ no_memory)

-- THE NEXT RECORD

-- the lines still to come
abbrev pub to_come : Reader → List (List ℕ)
to_come reader = lines_of (drop reader.at reader.text.now)

-- a record whose letter is read: its other fields, the number of its line, and the lines after it
pub record Opening : Type 0 where
  pub letter : Letter
  pub fields : List Field
  pub line : ℕ
  pub rest : List (List ℕ)

-- the first of the lines after line n
abbrev pub opened : Letter → ℕ → List (List ℕ) → Result (Option Opening) Located
opened last n [] = Ok None
opened last n (l ∷ ls) =
    then (in_line (n + 1) (opening last (fields_from 0 l)))
    (λ letter. Ok (Some (record { letter = letter; fields = tail (fields_from 0 l); line = n + 1; rest = ls })))

-- the same as a reader has it
abbrev pub opened_as : Reader → Result (Option Fields) Refused → Result (Option Opening) Located
opened_as reader (Ok None) = Ok None
opened_as reader (Ok (Some fields)) = Ok (Some (record { letter = reader.last; fields = left fields; line = reader.line; rest = to_come reader }))
opened_as reader (Err e) = Err (located e)

-- only declarations
abbrev pub declaring : Option Opening → Option Opening
declaring None = None
declaring (Some o) = cond (declares o.letter) (Some o) None

abbrev pub next_declaration : Letter → ℕ → List (List ℕ) → Result (Option Opening) Located
next_declaration last n ls = then (opened last n ls) (λ o. Ok (declaring o))

-- DECLARATIONS

-- what was declared so far
abbrev pub saying : Preamble → Declared
saying p = record { names = declared p.names; levels = vec_items p.levels; rows = rows_of p.table; outs = vec_items p.outs }

-- one declaration more, unless there was no memory
abbrev pub Declares : Letter → Declared → Declared → List Field → Result (Unit {0}) Refusal → Type 0
Declares letter before after fs (Ok u) = declaration letter before fs ≡ Ok after
Declares letter before after fs (Err e) = (declaration letter before fs ≡ Err e) ⊎ (e.fault ≡ Memory)

-- all declarations, and the lines left to the reader
abbrev pub DeclaresAll : Result Declarations Located → Declared → Reader → Result (Unit {0}) Refused → Type 0
DeclaresAll answer after reader (Ok u) = answer ≡ Ok (record { declared = after; line = reader.line; rest = to_come reader })
DeclaresAll answer after reader (Err e) = RefusedBy answer e
