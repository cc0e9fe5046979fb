-- What a sheet holds apart from its bank, the state of the model that this is, and when it is sound for a bank.
use Rattle.std.specs.Prelude.{◌≡◌, ℕ, ◌<◌, ◌≤◌, List, [], length, take, replicate, vec_items, slice_index}
use Rattle.semantics.specs.declared.Literal.{Literal}
use Rattle.semantics.specs.Rules.{Rule}
use Rattle.semantics.specs.Banks.{Meaning}
use Rattle.semantics.specs.Plans.{Program, WellFormed, plans, held}
use Rattle.semantics.specs.Search.{back, LeadsTo}
use Rattle.semantics.specs.Sheets.{State, program, Listing as Progress, Fresh as fresh, Running as running, Ended as ended, Full as full}
use Rattle.derivation.specs.Rulesets.{rules_in}
use Rattle.listing.specs.States.{listing_of}
use Rattle.listing.specs.Seeking.{opened}
use Rattle.sheet.specs.declared.paper.Sheet.{Sheet}

-- all that a call can learn of a sheet, but for its bank; the open choices have the newest first
pub record Contents : Type 0 where
  pub levels : List ℕ
  pub rules : List Rule
  pub listing : Progress
  pub handed : ℕ
  pub tallies : List ℕ
  pub opened : List Literal

-- what a sheet holds
abbrev pub contents : {M : Type 0} → Sheet M → Contents
contents s = record {
  levels = vec_items s.parts.levels;
  rules = rules_in s.parts.rules;
  listing = listing_of s.listing;
  handed = s.handed;
  tallies = vec_items s.parts.tallies;
  opened = opened s.parts.choices;
}

-- with a fresh listing
abbrev pub anew : List ℕ → List Rule → Contents
anew levels rules = record { levels = levels; rules = rules; listing = fresh; handed = 0; tallies = replicate (length levels) 0; opened = [] }

-- the state of the model
abbrev pub state_of : Meaning → Contents → State
state_of bank s = record { levels = s.levels; rules = s.rules; bank = bank; listing = s.listing; handed = s.handed }

-- the program whose plans are listed
abbrev pub in_force : Meaning → Contents → Program
in_force bank s = program (state_of bank s)

-- where a listing stands that has handed out so many of all plans
abbrev pub Stands : Progress → ℕ → ℕ → Type 0
Stands fresh handed all = handed ≡ 0
Stands running handed all = (handed ≤ all) × (handed < 1_000_000)
Stands ended handed all = (handed ≡ all) × (handed < 1_000_000)
Stands full handed all = (handed ≤ all) × (handed ≡ 1_000_000)

-- what the open choices of a listing are for: while it is running, a step back leads to the plans that are left
abbrev pub Resumes : Progress → Program → ℕ → List Literal → Type 0
Resumes fresh p handed cs = Unit {0}
Resumes running p handed cs = LeadsTo p handed (back cs)
Resumes ended p handed cs = Unit {0}
Resumes full p handed cs = Unit {0}

-- the lines are well formed, and listing, tallies and open choices are those of the plans handed out
pub record Sound (bank : Meaning) (s : Contents) : Type 0 where
  pub formed : 0 < length s.levels → WellFormed (in_force bank s)
  pub stands : Stands s.listing s.handed (length (plans (in_force bank s)))
  pub tallied : (a : ℕ) → a < length s.levels → slice_index s.tallies a ≡ held (take s.handed (plans (in_force bank s))) a
  pub resumes : Resumes s.listing (in_force bank s) s.handed s.opened
