-- How far the printing has come, and what the next line is.
use Rattle.std.specs.Prelude.{◌≡◌, ℕ, ◌+◌, ◌<◌, ◌≤◌, true, false, ◌⊎◌, ⊤, List, [], length, Some, None, Ok, Err, vec_items, Option, Result, slice_index_or}
use Rattle.std.specs.Borrow.{Bor}
use Rattle.faults.specs.declared.Fault.{Fault}
use Rattle.faults.specs.declared.Fault.TheVariants.{Memory, ListingFull}
use Rattle.semantics.specs.Modules.{pair_table}
use Rattle.semantics.specs.Sheets.{Listing as Reached, is_ended}
use Rattle.modules.specs.Tables.{rows_of}
use Rattle.sheet.specs.Contents.{contents, Sound}
use Rattle.fields.specs.Shown.{declared}
use Rattle.records.specs.declared.refusal.Refused.{Refused}
use Rattle.grammar.specs.Texts.{Described, read_text}
use Rattle.declarations.specs.Shown.{RefusedBy}
use Rattle.report.specs.declared.lister.Lister.{Lister}
use Rattle.report.specs.declared.lister.Stage.{Stage}
use Rattle.report.specs.declared.lister.Stage.TheVariants.{Plans, Tells}
use Rattle.report.specs.Printouts.{printout, all_plans}

-- k lines were printed: those of the plans handed out, and once the listing has ended the count and those of the atoms before a
abbrev pub StandsAt : Stage → ℕ → Reached → ℕ → ℕ → Type 0
StandsAt Plans atoms listing handed k = (is_ended listing ≡ false) × (handed ≡ k)
StandsAt (Tells a) atoms listing handed k = (is_ended listing ≡ true) × (handed + 1 + a ≡ k) × (a ≤ atoms)

-- k lines of the printout of a described sheet were printed
pub record PrintedSoFar (d : Described) (k : ℕ) (x : Lister) : Type 0 where
  pub names_are : declared x.names ≡ d.names
  pub bank_is : rows_of x.sheet.bank ≡ d.rows
  pub levels_are : (contents x.sheet).levels ≡ d.levels
  pub rules_are : (contents x.sheet).rules ≡ d.rules
  pub some_atom : 0 < length d.levels
  pub buffer : length (vec_items x.plan) ≡ length d.levels
  pub sound : Sound (pair_table d.rows) (contents x.sheet)
  pub stands : StandsAt x.stage (length d.levels) (contents x.sheet).listing (contents x.sheet).handed k

-- how many lines it printed: those of the plans handed out, and those under them
abbrev pub lines_under : Stage → ℕ
lines_under Plans = 0
lines_under (Tells a) = 1 + a

abbrev pub lines_out : Lister → ℕ
lines_out x = (contents x.sheet).handed + lines_under x.stage

-- line number k of the printout is ready
abbrev pub IsNext : Described → ℕ → List ℕ → Lister → Type 0
IsNext d k line x = (k < length (printout d)) × (line ≡ slice_index_or (printout d) k []) × PrintedSoFar d (k + 1) x

-- the printout was cut off at a million plans, or there is no memory
abbrev pub CutShort : Described → ℕ → Fault → Type 0
CutShort d k f = ((f ≡ ListingFull) × (k ≡ length (printout d)) × (1_000_000 ≤ length (all_plans d))) ⊎ (f ≡ Memory)

-- a line is written to the lister's own buffer
abbrev pub Writes : Described → ℕ → Lister → Result Unit Fault → Type 0
Writes d k x (Ok done) = IsNext d k (vec_items x.line) x
Writes d k x (Err f) = CutShort d k f

-- the next line is that of the printout; or the printout is at its end; or it was cut short
abbrev pub Prints : Described → ℕ → Result (Option (Bor (List ℕ))) Fault → Type 0
Prints d k (Ok (Some line)) = (k < length (printout d)) × (line.now ≡ slice_index_or (printout d) k [])
Prints d k (Ok None) = (k ≡ length (printout d)) × (length (all_plans d) < 1_000_000)
Prints d k (Err f) = CutShort d k f

-- and then one more line is printed
abbrev pub MovesOn : Lister → Result (Option (Bor (List ℕ))) Fault → Lister → Type 0
MovesOn old (Ok (Some line)) new = (d : Described) (k : ℕ) → PrintedSoFar d k old → PrintedSoFar d (k + 1) new
MovesOn old (Ok None) new = ⊤
MovesOn old (Err f) new = ⊤

-- a text is refused as it is defined, or nothing of what it describes is printed yet
abbrev pub Opens : List ℕ → Result Lister Refused → Type 0
Opens text (Ok x) = (d : Described) × (read_text text ≡ Ok d) × PrintedSoFar d 0 x
Opens text (Err e) = RefusedBy (read_text text) e
