-- What the code's own structs stand for.
use Rattle.std.specs.Prelude.{ℕ, List, take, Ok, Err, Result}
use Rattle.few.specs.Listed.{listed}
use Rattle.modules.specs.Tables.{row_of}
use Rattle.records.specs.Reading.{AtomRecord, RowRecord, LineRecord}
use Rattle.records.specs.declared.refusal.Refusal.{Refusal}
use Rattle.records.specs.declared.body.Placed.{Placed}
use Rattle.records.specs.declared.body.Body.{Body}
use Rattle.records.specs.declared.record.Row.{Row}
use Rattle.records.specs.declared.record.Line.{Line}
use Rattle.records.specs.declared.record.Section.{Section}
use Rattle.records.specs.declared.record.Section.TheVariants.{Atoms, Rows, Lines}

-- the literals that a body holds
abbrev pub held : Body → List Placed
held body = listed body.placed

abbrev pub held_in : Result Body Refusal → Result (List Placed) Refusal
held_in (Ok body) = Ok (held body)
held_in (Err refusal) = Err refusal

-- a body is handed on up to its ninth literal, which already makes it too long
abbrev pub up_to_nine : Result (List Placed) Refusal → Result (List Placed) Refusal
up_to_nine (Ok body) = Ok (take 9 body)
up_to_nine (Err refusal) = Err refusal

-- the level that an atom's record says; its name is declared
abbrev pub level_said : Result AtomRecord Refusal → Result ℕ Refusal
level_said (Ok a) = Ok a.level
level_said (Err refusal) = Err refusal

-- what the record of a row says
abbrev pub row_said : Result Row Refusal → Result RowRecord Refusal
row_said (Ok r) = Ok (record { row = row_of r.pair; out = r.byte })
row_said (Err refusal) = Err refusal

-- what the record of a line or a bar says
abbrev pub line_said : Result Line Refusal → Result LineRecord Refusal
line_said (Ok l) = Ok (record { head = l.head; body = held l.body })
line_said (Err refusal) = Err refusal

-- the same with the body up to its ninth literal
abbrev pub nine_of : Result LineRecord Refusal → Result LineRecord Refusal
nine_of (Ok l) = Ok (record { head = l.head; body = take 9 l.body })
nine_of (Err refusal) = Err refusal

-- the order of the three sections of a text
abbrev pub section_rank : Section → ℕ
section_rank Atoms = 0
section_rank Rows = 1
section_rank Lines = 2
