-- A whole text: the sheet that it describes, or its first fault.
use Rattle.std.specs.Prelude.{ℕ, cond, List, [], Ok, Err, Result}
use Rattle.semantics.specs.Rules.{Rule}
use Rattle.semantics.specs.Modules.{Row as PairRow}
use Rattle.fields.specs.declared.field.Letter.TheVariants.{Atom}
use Rattle.fields.specs.Pieces.{lines_of}
use Rattle.records.specs.Reading.{then}
use Rattle.declarations.specs.Whole.{is_whole}
use Rattle.declarations.specs.Declaring.{Located, Declared, none_declared, Declarations, declarations}
use Rattle.grammar.specs.Entering.{laid, ruled}

-- the names of the atoms and their levels, the rows of the pair table, and the lines and bars
pub record Described : Type 0 where
  pub names : List (List ℕ)
  pub levels : List ℕ
  pub rows : List PairRow
  pub rules : List Rule

abbrev pub described : Declared → List Rule → Described
described d rules = record { names = d.names; levels = d.levels; rows = d.rows; rules = rules }

-- the sheet is laid after the declarations, and then the lines and bars are entered
abbrev pub on_sheet : Declarations → Result Described Located
on_sheet p = then (laid p.declared) (λ _. then (ruled p.declared [] p.line p.rest) (λ rules. Ok (described p.declared rules)))

-- what the lines of a text describe
abbrev pub read_lines : List (List ℕ) → Result Described Located
read_lines lines = then (declarations none_declared Atom 0 lines) on_sheet

-- what a text describes, or its first fault
abbrev pub read_text : List ℕ → Result Described Located
read_text text = cond (is_whole text) (read_lines (lines_of text)) (Err (record { number = 27; line = 0; byte = 0 }))
