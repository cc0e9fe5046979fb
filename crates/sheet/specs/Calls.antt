-- What each call promises, by the model of a sheet's calls.
use Rattle.std.specs.Prelude.{◌≡◌, ℕ, Bool, true, false, List, is_some, Some, None, Ok, Err, Option, Result}
use Rattle.semantics.specs.declared.Literal.{Literal}
use Rattle.semantics.specs.declared.Head.{Head}
use Rattle.semantics.specs.Banks.{Meaning}
use Rattle.semantics.specs.Sheets.{Call, lay, enter, tell, Answer, refused, done, plan, no_more, told, marked, contradiction, Tally, Fault as Flaw, Answers, after, fault, blank}
use Rattle.faults.specs.declared.Fault.{Fault}
use Rattle.sheet.specs.declared.paper.Told.{Told}
use Rattle.faults.specs.Faults.{out_of_memory}
use Rattle.sheet.specs.Faults.{flaw}
use Rattle.sheet.specs.Contents.{Contents, state_of, Sound}

-- what is told of an atom, as the model names it
abbrev pub tally_of : Told → Tally
tally_of t = record { held = t.held; all = t.all; brave = t.brave; cautious = t.cautious }

-- the answer that a result is
abbrev pub reply : {X : Type 0} → (X → Answer) → Result X Fault → Answer
reply accepted (Ok x) = accepted x
reply accepted (Err f) = refused (flaw f)

-- the fault of an answer that is a refusal
abbrev pub refusal : Answer → Option Flaw
refusal (refused f) = Some f
refusal done = None
refusal (plan s) = None
refusal no_more = None
refusal (told t) = None
refusal (marked m) = None
refusal contradiction = None

-- a call takes the contents s to t and answers r.
-- Without a premise: it is refused exactly by the fault that the model finds, and a refusal changes nothing.
-- On a sound sheet: the answer and the state are the model's, and the sheet is sound again.
pub record Called (bank : Meaning) (s t : Contents) (c : Call) (r : Answer) : Type 0 where
  pub refusal_is : refusal r ≡ fault (state_of bank s) c
  pub unchanged : is_some (refusal r) ≡ true → t ≡ s
  pub answer_is : Sound bank s → Answers (state_of bank s) c r
  pub state_is : Sound bank s → state_of bank t ≡ after (state_of bank s) c
  pub sound : Sound bank s → Sound bank t

-- the same of a call that allocates: want of memory refuses only what the model accepts, and changes nothing
abbrev pub CalledWithMemory : Bool → Meaning → Contents → Contents → Call → Answer → Type 0
CalledWithMemory true bank s t c r = (fault (state_of bank s) c ≡ None) × (t ≡ s)
CalledWithMemory false bank s t c r = Called bank s t c r

-- the answer of a call that has nothing to say
abbrev pub plainly : Result (Unit {0}) Fault → Answer
plainly r = reply (λ u. done) r

-- `blank`: the model's sheet that was never laid, and sound
pub record Made (bank : Meaning) (t : Contents) : Type 0 where
  pub state_is : state_of bank t ≡ blank bank
  pub sound : Sound bank t

-- `lay` with these levels
abbrev pub Laid : Meaning → Contents → Contents → List ℕ → Result (Unit {0}) Fault → Type 0
Laid bank s t levels r = CalledWithMemory (out_of_memory r) bank s t (lay levels) (plainly r)

-- `enter` with this head and body
abbrev pub Entered : Meaning → Contents → Contents → Head → List Literal → Result (Unit {0}) Fault → Type 0
Entered bank s t h body r = CalledWithMemory (out_of_memory r) bank s t (enter h body) (plainly r)

-- `tell` of this atom
abbrev pub Tells : Meaning → Contents → ℕ → Result Told Fault → Type 0
Tells bank s a r = Called bank s s (tell a) (reply (λ t. told (tally_of t)) r)
