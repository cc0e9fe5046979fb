-- How the promise of an accepted call is met.
use Rattle.std.proofs.Common.{◌≡◌, ℕ, ◌<◌, List, length, is_some, Some, None, Option, sym, refl, ap, ◌∙◌, subst}
use lib.ListN.{get_or-replicate}
use Rattle.std.proofs.lemmas.Option.{none-some}
use Rattle.semantics.specs.Rules.{Rule}
use Rattle.semantics.specs.Banks.{Meaning}
use Rattle.semantics.specs.Plans.{WellFormed}
use Rattle.semantics.specs.Sheets.{State, atoms, program, Call, tell, Answer, refused, done, told, Tally, tally, Fault as Flaw, fault, is_ended, Replies, Accepts, moved, Listing, Fresh, Running, Ended, Full}
use Rattle.semantics.specs.Sheets as model
use Rattle.sheet.specs.Contents.{Contents, state_of, in_force, anew, Sound}
use Rattle.sheet.specs.Calls.{Called, refusal}

moves : (o : Option Flaw) (st st' : State) → o ≡ None → st' ≡ elim o [ None ↦ st' | Some x ↦ st ]
moves None st st' e = refl
moves (Some x) st st' e = cc

replies_accepted : (o : Option Flaw) (st : State) (c : Call) (r : Answer) → o ≡ None → Accepts st c r → Replies o st c r
replies_accepted None st c r e h = h
replies_accepted (Some x) st c r e h = absurd (none-some x (sym e))

-- a fresh listing is sound
anew_sound : (bank : Meaning) (levels : List ℕ) (rules : List Rule) → (0 < length levels → WellFormed (in_force bank (anew levels rules))) → Sound bank (anew levels rules)
anew_sound bank levels rules formed = record {
  formed = formed;
  stands = refl;
  tallied = λ a l. get_or-replicate (length levels) a 0 0 l;
  resumes = tt;
}

module _ (bank : Meaning) (s : Contents) (c : Call) where
  -- accepted, with a fresh listing afterwards
  pub restarts : (levels : List ℕ) (rules : List Rule) (t : Contents) → fault (state_of bank s) c ≡ None → Accepts (state_of bank s) c done →
      t ≡ anew levels rules → model.anew bank levels rules ≡ moved (state_of bank s) c →
      (Sound bank s → 0 < length levels → WellFormed (in_force bank (anew levels rules))) → Called bank s t c done
  restarts levels rules t e accepts is goes formed = record {
    refusal_is = sym e;
    unchanged = λ h. cc;
    answer_is = λ _. replies_accepted (fault (state_of bank s) c) (state_of bank s) c done e accepts;
    state_is = λ _. ap (state_of bank) is ∙ goes ∙ moves (fault (state_of bank s) c) (state_of bank s) (moved (state_of bank s) c) e;
    sound = λ k. subst (Sound bank) (sym is) (anew_sound bank levels rules (formed k));
  }

  -- accepted
  pub accept : (t : Contents) (r : Answer) → refusal r ≡ None → fault (state_of bank s) c ≡ None →
      (Sound bank s → Accepts (state_of bank s) c r) → (Sound bank s → state_of bank t ≡ moved (state_of bank s) c) → (Sound bank s → Sound bank t) → Called bank s t c r
  accept t r n e accepts goes sound = record {
    refusal_is = n ∙ sym e;
    unchanged = λ h. let z = ap is_some n in cc;
    answer_is = λ k. replies_accepted (fault (state_of bank s) c) (state_of bank s) c r e (accepts k);
    state_is = λ k. goes k ∙ moves (fault (state_of bank s) c) (state_of bank s) (moved (state_of bank s) c) e;
    sound = sound;
  }
