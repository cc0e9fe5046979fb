-- What the model of a sheet's calls says of a step of the listing, and of telling once it has ended.
use Rattle.std.proofs.Common.{◌≡◌, ℕ, ◌+◌, ◌<◌, ◌≤◌, Bool, true, false, cond, eqb, List, [], length, get_or, None, sym, refl, ◌∙◌, arith}
use Rattle.faults.specs.declared.Fault.{Fault}
use Rattle.faults.specs.declared.Fault.TheVariants.{ListingFull}
use Rattle.faults.specs.Faults.{number_of}
use Rattle.semantics.specs.Banks.{Meaning}
use Rattle.semantics.specs.Plans.{plans}
use Rattle.semantics.specs.Sheets.{State, next, tell, Answer, refused, plan, no_more, told, tally, fault, moved, more_plans, listing_at, Listing, Running, Ended, Full, is_ended, is_full, fault_if}
use Rattle.sheet.specs.Faults.{flaw}
use Rattle.sheet.specs.Contents.{Contents, state_of, in_force, Stands, Sound}
use Rattle.sheet.specs.Calls.{Called, refusal}

-- where a listing stands
pub when_ended : (l : Listing) (handed all : ℕ) → is_ended l ≡ true → Stands l handed all → (handed ≡ all) × (handed < 1_000_000)
when_ended l handed all e k = grind arith

-- only one fault has this number
full_fault : (f : Fault) → number_of f ≡ 13 → f ≡ ListingFull
full_fault f e = grind arith

-- a plan is handed out: it is the next one
pub record HandsOut (bank : Meaning) (s t : Contents) (set : List ℕ) : Type 0 where
  pub left : s.handed < length (plans (in_force bank s))
  pub few : s.handed < 1_000_000
  pub is_next : set ≡ get_or (plans (in_force bank s)) s.handed []
  pub levels : t.levels ≡ s.levels
  pub rules : t.rules ≡ s.rules
  pub handed : t.handed ≡ s.handed + 1
  pub goes_on : is_ended t.listing ≡ false

-- no plan is left
pub record Ends (bank : Meaning) (s t : Contents) : Type 0 where
  pub levels : t.levels ≡ s.levels
  pub rules : t.rules ≡ s.rules
  pub handed : t.handed ≡ s.handed
  pub ended : is_ended t.listing ≡ true

module _ (bank : Meaning) (s t : Contents) (size : ℕ) (laid : 0 < length s.levels) (fits : size ≡ length s.levels) (ok : Sound bank s) where
  abbrev st : State
  st = state_of bank s

  abbrev all : List (List ℕ)
  all = plans (in_force bank s)

  -- a step is refused only by a full listing
  fault_is : fault st (next size) ≡ fault_if 13 (is_full s.listing)
  fault_is = grind (arith, laid, fits)

  module _ (r : Answer) (free : refusal r ≡ None) (called : Called bank s t (next size) r) where
    passes : None ≡ fault st (next size)
    passes = sym free ∙ called.refusal_is

    running : (s.handed ≤ length all) × (s.handed < 1_000_000)
    running = let e = passes ∙ fault_is in let k = ok.stands in grind arith

    answer : r ≡ cond (more_plans st) (plan (get_or all s.handed [])) no_more
    answer = let e = passes in let h = called.answer_is ok in grind arith

    goes : state_of bank t ≡ moved st (next size)
    goes = let e = passes in let h = called.state_is ok in grind arith

  abbrev onward : State
  onward = listing_at st (cond (eqb (s.handed + 1) 1_000_000) Full Running) (s.handed + 1)

  abbrev at_end : State
  at_end = listing_at st Ended s.handed

  plan_then : (set : List ℕ) (b : Bool) → more_plans st ≡ b → plan set ≡ cond b (plan (get_or all s.handed [])) no_more → state_of bank t ≡ cond b onward at_end →
      s.handed < 1_000_000 → HandsOut bank s t set
  plan_then set b m a g few = grind arith

  end_then : (b : Bool) → no_more ≡ cond b (plan (get_or all s.handed [])) no_more → state_of bank t ≡ cond b onward at_end → Ends bank s t
  end_then b a g = grind arith

  pub steps_on : (set : List ℕ) → Called bank s t (next size) (plan set) → HandsOut bank s t set
  steps_on set called = plan_then set (more_plans st) refl (answer (plan set) refl called) (goes (plan set) refl called) (running (plan set) refl called).1

  pub comes_to_end : Called bank s t (next size) no_more → Ends bank s t
  comes_to_end called = end_then (more_plans st) (answer no_more refl called) (goes no_more refl called)

  pub is_cut_off : (f : Fault) → Called bank s t (next size) (refused (flaw f)) → (f ≡ ListingFull) × (s.handed ≡ 1_000_000) × (1_000_000 ≤ length all)
  is_cut_off f called = let e = called.refusal_is ∙ fault_is in let k = ok.stands in grind (arith, full_fault)

-- once the listing has ended, each atom is told
module _ (bank : Meaning) (s : Contents) (a : ℕ) (r : Answer) (laid : a < length s.levels) (ended : is_ended s.listing ≡ true) (called : Called bank s s (tell a) r) where
  tell_passes : fault (state_of bank s) (tell a) ≡ None
  tell_passes = grind (arith, laid, ended)

  pub tells : Sound bank s → r ≡ told (tally (plans (in_force bank s)) a)
  tells ok = let e = tell_passes in let h = called.answer_is ok in grind arith
