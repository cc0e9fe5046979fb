-- The sheet that a text leaves.
use Rattle.std.specs.Prelude.{◌≡◌, ℕ, ◌≤◌, ◌⊎◌, List, [], ◌∷◌, ◌++◌, length, Ok, Err, Result}
use Rattle.faults.specs.Faults.{number_of}
use Rattle.faults.specs.declared.Fault.TheVariants.{Memory}
use Rattle.semantics.specs.Rules.{Rule}
use Rattle.semantics.specs.Modules.{pair_table, Row as PairRow}
use Rattle.semantics.specs.Sheets.{anew}
use Rattle.modules.specs.Tables.{rows_of}
use Rattle.modules.specs.declared.rows.PairTable.{PairTable}
use Rattle.sheet.specs.declared.paper.Sheet.{Sheet}
use Rattle.sheet.specs.Contents.{contents, state_of, Sound}
use Rattle.fields.specs.Shown.{declared}
use Rattle.fields.specs.Pieces.{Field}
use Rattle.fields.specs.declared.field.Letter.{Letter}
use Rattle.records.specs.declared.refusal.Refusal.{Refusal}
use Rattle.records.specs.declared.refusal.Refused.{Refused}
use Rattle.text.specs.declared.loaded.Loaded.{Loaded}
use Rattle.declarations.specs.Declaring.{Located, Declared}
use Rattle.grammar.specs.Entering.{laid_with, entering}
use Rattle.grammar.specs.Format.{Record, rendered, meant, Valid, Written}
use Rattle.grammar.specs.Texts.{Described}
use Rattle.declarations.specs.Shown.{RefusedBy, no_memory}

-- a sound sheet over these rows, with these levels and rules and a fresh listing
pub record Holds (rows : List PairRow) (levels : List ℕ) (rules : List Rule) (sheet : Sheet PairTable) : Type 0 where
  pub bank_is : rows_of sheet.bank ≡ rows
  pub state_is : state_of (pair_table rows) (contents sheet) ≡ anew (pair_table rows) levels rules
  pub sound : Sound (pair_table rows) (contents sheet)

-- rows and levels are laid
abbrev pub Lays : List PairRow → List ℕ → List ℕ → Result (Sheet PairTable) Refused → Type 0
Lays rows levels outs (Ok sheet) = (laid_with rows levels outs ≡ Ok tt) × Holds rows levels [] sheet
Lays rows levels outs (Err e) = RefusedBy (laid_with rows levels outs) e

-- one line or bar more, unless there was no memory
abbrev pub Enters : Declared → List Rule → ℕ → Letter → List Field → Sheet PairTable → Result (Unit {0}) Refusal → Type 0
Enters d rules n letter fs after (Ok u) = (rule : Rule) × (entering d rules n letter fs ≡ Ok rule) × Holds d.rows d.levels (rules ++ rule ∷ []) after
Enters d rules n letter fs after (Err e) = (entering d rules n letter fs ≡ Err (record { number = number_of e.fault; line = n; byte = e.byte })) ⊎ (e.fault ≡ Memory)

-- all lines and bars
abbrev pub EntersAll : Declared → Result (List Rule) Located → Sheet PairTable → Result (Unit {0}) Refused → Type 0
EntersAll d answer after (Ok u) = (rules : List Rule) × (answer ≡ Ok rules) × Holds d.rows d.levels rules after
EntersAll d answer after (Err e) = RefusedBy answer e

-- what a text describes is loaded: the names, and a sheet with the levels, the rows and the rules
pub record Loads (d : Described) (loaded : Loaded) : Type 0 where
  pub names_are : declared loaded.names ≡ d.names
  pub sheet_holds : Holds d.rows d.levels d.rules loaded.sheet

-- the answer to a text, unless there was no memory
abbrev pub Answers : Result Described Located → Result Loaded Refused → Type 0
Answers answer (Ok loaded) = (d : Described) × (answer ≡ Ok d) × Loads d loaded
Answers answer (Err e) = RefusedBy answer e

-- what is loaded is what valid records describe whose rendering the text is; no such text is refused, but for want of memory
abbrev pub Settles : List ℕ → Result Loaded Refused → Type 0
Settles text (Ok loaded) = (rs : List Record) × Valid rs × (text ≡ rendered rs) × (length text ≤ 65536) × Loads (meant rs) loaded
Settles text (Err e) = Written text → e ≡ no_memory
