-- What looking for the next plan, and `next`, promise.
use Rattle.std.specs.Prelude.{◌≡◌, ℕ, Bool, true, false, List, length, Ok, Err, Result}
use Rattle.semantics.specs.declared.Literal.{Literal}
use Rattle.semantics.specs.Banks.{Meaning}
use Rattle.semantics.specs.Plans.{Program}
use Rattle.semantics.specs.Sheets.{next, Answer, plan, no_more, Listing, Ended}
use Rattle.listing.specs.States.{after_plan}
use Rattle.listing.specs.Tallies.{Counted, raised}
use Rattle.listing.specs.Seeking.{GoesOn}
use Rattle.faults.specs.declared.Fault.{Fault}
use Rattle.sheet.specs.declared.paper.Step.{Step}
use Rattle.sheet.specs.declared.paper.Step.TheVariants.{Plan, NoMore}
use Rattle.sheet.specs.Contents.{Contents}
use Rattle.sheet.specs.Calls.{Called, reply}

-- looking goes on if the buffer has a byte for each atom
abbrev pub Looked : Bool → Listing → Program → List Literal → List Literal → List ℕ → Bool → Type 0
Looked false l p cs cs' set found = (found ≡ false) × (cs' ≡ cs)
Looked true l p cs cs' set found = GoesOn l p cs cs' set found

-- the same contents with other open choices
abbrev pub reopened : Contents → List Literal → Contents
reopened s cs = record { levels = s.levels; rules = s.rules; listing = s.listing; handed = s.handed; tallies = s.tallies; opened = cs }

-- a plan is handed out at these choices: one more, and one more for each of its atoms
pub record HandedOut (s t : Contents) (cs : List Literal) (set : List ℕ) : Type 0 where
  pub levels : t.levels ≡ s.levels
  pub rules : t.rules ≡ s.rules
  pub handed : t.handed ≡ raised s.handed
  pub listing : t.listing ≡ after_plan t.handed
  pub tallies : Counted set s.tallies t.tallies
  pub opened : t.opened ≡ cs

-- the listing is ended, with these choices left open
abbrev pub ended_at : Contents → List Literal → Contents
ended_at s cs = record { levels = s.levels; rules = s.rules; listing = Ended; handed = s.handed; tallies = s.tallies; opened = cs }

-- the answer of a step, with the buffer that it left
abbrev pub step_of : List ℕ → Step → Answer
step_of buffer Plan = plan buffer
step_of buffer NoMore = no_more

-- whether a plan was written
abbrev pub is_plan_step : Result Step Fault → Bool
is_plan_step (Ok Plan) = true
is_plan_step (Ok NoMore) = false
is_plan_step (Err f) = false

-- `next`, with the buffer before and after
abbrev pub Stepped : Meaning → Contents → Contents → List ℕ → List ℕ → Result Step Fault → Type 0
Stepped bank s t before after r = Called bank s t (next (length before)) (reply (step_of after) r)
