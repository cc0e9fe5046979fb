-- The faults of the calls as the model names them.
use Rattle.std.specs.Prelude.{Some, None, Ok, Err, Option, Result}
use Rattle.faults.specs.declared.Fault.{Fault}
use Rattle.faults.specs.Faults.{number_of, place_of}
use Rattle.semantics.specs.Sheets.{Fault as Flaw}

-- a fault by its number and its place
abbrev pub flaw : Fault → Flaw
flaw f = record { number = number_of f; place = place_of f }

-- the fault in a refusal
abbrev pub flaw_in : {X : Type 0} → Result X Fault → Option Flaw
flaw_in (Ok x) = None
flaw_in (Err f) = Some (flaw f)
