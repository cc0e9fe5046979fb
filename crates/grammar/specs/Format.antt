-- The text format: records, how they are written, what they describe, and which lists of them are valid. A text is
-- accepted exactly if it is the rendering of valid records, and what is loaded is then what they describe.
use Rattle.std.specs.Prelude.{◌≡◌, ℕ, ◌+◌, ◌<◌, ◌≤◌, true, false, cond, List, [], ◌∷◌, ◌++◌, map, length, is_some, Some, None, Ok, nat_lt}
use Rattle.semantics.specs.declared.Side.{Side}
use Rattle.semantics.specs.declared.Side.TheVariants.{Present, Absent}
use Rattle.semantics.specs.declared.Literal.{Literal}
use Rattle.semantics.specs.declared.Head.TheVariants as heads
use Rattle.semantics.specs.Modules.{Row as PairRow}
use Rattle.semantics.specs.Sheets.{level}
use Rattle.fields.specs.declared.field.Letter.{Letter}
use Rattle.fields.specs.declared.field.Letter.TheVariants.{Atom, Row, Rule, Bar}
use Rattle.fields.specs.Words.{is_name}
use Rattle.fields.specs.Places.{place_of}
use Rattle.records.specs.Reading.{rank_of}
use Rattle.grammar.specs.Texts.{Described, read_text}

-- a name with a side
pub record Named : Type 0 where
  pub side : Side
  pub name : List ℕ

-- the four kinds of records
pub data Record : Type 0 where
  atom : (name : List ℕ) (level : ℕ) → Record
  row : (first second out : List ℕ) → Record
  line : (head : List ℕ) (body : List Named) → Record
  bar : (body : List Named) → Record

-- HOW RECORDS ARE WRITTEN

-- a level in decimal, 0 to 15
abbrev pub digits : ℕ → List ℕ
digits k = cond (nat_lt k 10) ((48 + k) ∷ []) (49 ∷ (38 + k) ∷ [])

-- a minus before the name negates it
abbrev pub signed : Side → List ℕ → List ℕ
signed Present name = name
signed Absent name = 45 ∷ name

abbrev pub literal_text : Named → List ℕ
literal_text l = signed l.side l.name

-- the letters a, p, r and b
abbrev pub letter_text : Letter → List ℕ
letter_text Atom = 97 ∷ []
letter_text Row = 112 ∷ []
letter_text Rule = 114 ∷ []
letter_text Bar = 98 ∷ []

abbrev pub letter : Record → Letter
letter (atom name k) = Atom
letter (row first second out) = Row
letter (line head body) = Rule
letter (bar body) = Bar

-- the fields after the letter
abbrev pub fields : Record → List (List ℕ)
fields (atom name k) = name ∷ digits k ∷ []
fields (row first second out) = first ∷ second ∷ out ∷ []
fields (line head body) = head ∷ map literal_text body
fields (bar body) = map literal_text body

-- fields with commas between them
abbrev pub commas : List (List ℕ) → List ℕ
commas [] = []
commas (f ∷ []) = f
commas (f ∷ g ∷ fs) = f ++ 44 ∷ commas (g ∷ fs)

-- lines, each with the byte 10 after it
abbrev pub unlines : List (List ℕ) → List ℕ
unlines [] = []
unlines (l ∷ ls) = l ++ 10 ∷ unlines ls

abbrev pub line_text : Record → List ℕ
line_text r = commas (letter_text (letter r) ∷ fields r)

abbrev pub rendered : List Record → List ℕ
rendered rs = unlines (map line_text rs)

-- WHAT RECORDS DESCRIBE

-- the atom that a name stands for: its place among the declared names
abbrev pub place : List (List ℕ) → List ℕ → ℕ
place names name = elim (place_of names name) [ Some a ↦ a | None ↦ 0 ]

abbrev pub literal_named : List (List ℕ) → Named → Literal
literal_named names l = record { atom = place names l.name; side = l.side }

abbrev pub none_described : Described
none_described = record { names = []; levels = []; rows = []; rules = [] }

-- one record more
abbrev pub with_record : Described → Record → Described
with_record d (atom name k) = record { names = d.names ++ name ∷ []; levels = d.levels ++ k ∷ []; rows = d.rows; rules = d.rules }
with_record d (row first second out) = record {
  names = d.names;
  levels = d.levels;
  rows = d.rows ++ record { one = place d.names first; other = place d.names second; to = place d.names out } ∷ [];
  rules = d.rules;
}
with_record d (line head body) = record {
  names = d.names;
  levels = d.levels;
  rows = d.rows;
  rules = d.rules ++ record { head = heads.Atom (place d.names head); body = map (literal_named d.names) body } ∷ [];
}
with_record d (bar body) = record {
  names = d.names;
  levels = d.levels;
  rows = d.rows;
  rules = d.rules ++ record { head = heads.Bar; body = map (literal_named d.names) body } ∷ [];
}

-- more records after what is described already
abbrev pub meant_after : Described → List Record → Described
meant_after d [] = d
meant_after d (r ∷ rs) = meant_after (with_record d r) rs

-- what records describe
abbrev pub meant : List Record → Described
meant rs = meant_after none_described rs

-- WHICH RECORDS ARE VALID

-- a declared name
abbrev pub Known : List (List ℕ) → List ℕ → Type 0
Known names name = (is_name name ≡ true) × (is_some (place_of names name) ≡ true)

abbrev pub AllKnown : List (List ℕ) → List Named → Type 0
AllKnown names [] = Unit {0}
AllKnown names (l ∷ ls) = Known names l.name × AllKnown names ls

-- no literal, plain or negated, has a level above the head's
abbrev pub BodyBelow : List ℕ → ℕ → List Literal → Type 0
BodyBelow levels head [] = Unit {0}
BodyBelow levels head (l ∷ ls) = (level levels l.atom ≤ level levels head) × BodyBelow levels head ls

-- a record after what is described already: an atom's name is new and every other name is declared; there are at
-- most 256 atoms, 64 rows and 512 lines and bars; a body has at most eight literals
abbrev pub Allowed : Described → Record → Type 0
Allowed d (atom name k) = (is_name name ≡ true) × (is_some (place_of d.names name) ≡ false) × (k ≤ 15) × (length d.names < 256)
Allowed d (row first second out) = Known d.names first × Known d.names second × Known d.names out × (length d.rows < 64)
Allowed d (line head body) =
    Known d.names head × AllKnown d.names body × (length d.rules < 512) × (length body ≤ 8)
    × BodyBelow d.levels (place d.names head) (map (literal_named d.names) body)
Allowed d (bar body) = AllKnown d.names body × (length d.rules < 512) × (length body ≤ 8)

-- atoms first, then rows, then lines and bars, each allowed after those before it
abbrev pub ValidAfter : Described → Letter → List Record → Type 0
ValidAfter d last [] = Unit {0}
ValidAfter d last (r ∷ rs) = (rank_of last ≤ rank_of (letter r)) × Allowed d r × ValidAfter (with_record d r) (letter r) rs

-- both atoms that a row reads have levels below its output's
abbrev pub RowsBelow : List ℕ → List PairRow → Type 0
RowsBelow levels [] = Unit {0}
RowsBelow levels (r ∷ rows) = (level levels r.one < level levels r.to) × (level levels r.other < level levels r.to) × RowsBelow levels rows

-- there is an atom, and every row reads below its output
abbrev pub Layable : Described → Type 0
Layable d = (0 < length d.levels) × RowsBelow d.levels d.rows

abbrev pub Valid : List Record → Type 0
Valid rs = ValidAfter none_described Atom rs × Layable (meant rs)

-- THE LAW

-- a text that is the rendering of valid records, and not too long, and what these describe
abbrev pub WrittenAs : List ℕ → Described → Type 0
WrittenAs text d = (rs : List Record) × Valid rs × (text ≡ rendered rs) × (length text ≤ 65536) × (d ≡ meant rs)

abbrev pub Written : List ℕ → Type 0
Written text = (rs : List Record) × Valid rs × (text ≡ rendered rs) × (length text ≤ 65536)

-- what is accepted is the rendering of valid records, and describes what they do
abbrev pub AcceptedIsRendered : Type 0
AcceptedIsRendered = (text : List ℕ) (d : Described) → read_text text ≡ Ok d → WrittenAs text d

-- the rendering of valid records is accepted, unless it is too long
abbrev pub RenderedIsAccepted : Type 0
RenderedIsAccepted = (rs : List Record) → Valid rs → length (rendered rs) ≤ 65536 → read_text (rendered rs) ≡ Ok (meant rs)

-- a text has one reading
abbrev pub ReadingsAreOne : Type 0
ReadingsAreOne = (rs ss : List Record) → Valid rs → Valid ss → rendered rs ≡ rendered ss → rs ≡ ss
