-- What is printed for a text.
use Rattle.std.specs.Prelude.{◌≡◌, ℕ, ◌<◌, ◌≤◌, ⊤, ◌⊎◌, List, [], ◌++◌, length, take, Ok, Err, Option, Result}
use Rattle.std.specs.List.{concat}
use Rattle.std.specs.Io.KnownBytes.{Appends}
use Rattle.faults.specs.Faults.{number_of}
use Rattle.faults.specs.declared.Fault.TheVariants.{ListingFull}
use Rattle.records.specs.declared.refusal.Refused.{Refused}
use Rattle.declarations.specs.Shown.{RefusedBy, no_memory}
use Rattle.grammar.specs.Texts.{Described, read_text}
use Rattle.printout.specs.Printed.{fault_line}
use Rattle.report.specs.declared.stop.Stop.{Stop}
use Rattle.report.specs.declared.stop.Stop.TheVariants as stop
use Rattle.report.specs.Printouts.{printout, all_plans}

-- the printout of a million plans is cut off, and that of any number of them ends where there is no memory
abbrev pub EndsAt : Described → List (List ℕ) → Refused → Type 0
EndsAt d lines e =
    ((e ≡ record { fault = ListingFull; line = 0; byte = 0 }) × (lines ≡ printout d) × (1_000_000 ≤ length (all_plans d)))
    ⊎ ((e ≡ no_memory) × (k : ℕ) × (lines ≡ take k (printout d)))

-- the lines that are printed before a fault: none for a text that is refused, or those of the text's printout
abbrev pub Before : List ℕ → List (List ℕ) → Refused → Type 0
Before text lines e = ((lines ≡ []) × RefusedBy (read_text text) e) ⊎ ((d : Described) × (read_text text ≡ Ok d) × EndsAt d lines e)

-- the output grew by the whole printout of an accepted text, with under a million plans
abbrev pub ListsWhole : List ℕ → Option (List ℕ) → Option (List ℕ) → Type 0
ListsWhole text old new = (d : Described) × (read_text text ≡ Ok d) × (length (all_plans d) < 1_000_000) × Appends old new (concat (printout d))

-- or by the lines before a fault, and then the line of that fault
abbrev pub Lists : List ℕ → Option (List ℕ) → Option (List ℕ) → Result Unit Stop → Type 0
Lists text old new (Ok done) = ListsWhole text old new
Lists text old new (Err (stop.Refused e)) = (lines : List (List ℕ)) × Before text lines e × Appends old new (concat lines ++ fault_line (number_of e.fault) e.line e.byte)
Lists text old new (Err (stop.Outside e)) = ⊤

-- the same without the line of the fault
abbrev pub ListsLines : List ℕ → Option (List ℕ) → Option (List ℕ) → Result Unit Stop → Type 0
ListsLines text old new (Ok done) = ListsWhole text old new
ListsLines text old new (Err (stop.Refused e)) = (lines : List (List ℕ)) × Before text lines e × Appends old new (concat lines)
ListsLines text old new (Err (stop.Outside e)) = ⊤

-- the output grew by the line of the fault, or by that of want of memory, which is the fault then
abbrev pub PrintsFault : Refused → Option (List ℕ) → Option (List ℕ) → Refused → Type 0
PrintsFault refused old new e = ((e ≡ refused) ⊎ (e ≡ no_memory)) × Appends old new (fault_line (number_of e.fault) e.line e.byte)
