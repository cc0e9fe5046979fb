-- Laying the sheet.
use Rattle.std.proofs.Common.{◌≡◌, ℕ, ◌+◌, Bool, true, false, cond, eqb, List, [], length, get_or, Some, None, Ok, Err, Option, Result, sym, refl, ap, ◌∙◌, subst, inl, inr, arith}
use Rattle.std.specs.Result.{IsErrAnd}
use Rattle.std.proofs.lemmas.Bool.{eqb-true}
use Rattle.faults.specs.Faults.{number_of, place_of}
use Rattle.faults.specs.declared.Fault.{Fault}
use Rattle.semantics.specs.Banks.{Meaning}
use Rattle.semantics.specs.Modules.{pair_table, Row as PairRow}
use Rattle.semantics.specs.Sheets.{State, Call, lay, done, refused, Fault as Flaw, fault, moved, blank}
use Rattle.semantics.specs.Sheets as model
use Rattle.sheet.specs.Contents.{Contents, state_of, Sound}
use Rattle.sheet.specs.Calls.{Called, CalledWithMemory, Made, Laid}
use Rattle.sheet.specs.Faults.{flaw}
use Rattle.records.specs.declared.refusal.Refused.{Refused}
use Rattle.grammar.specs.Entering.{placing, lay_place, laid_with}
use Rattle.declarations.specs.Shown.{RefusedBy, located}
use Rattle.text.proofs.Numbers.{without_memory}

-- AN ACCEPTED CALL

pub accepted_faultless : (bank : Meaning) (s t : Contents) (c : Call) → Called bank s t c done → fault (state_of bank s) c ≡ None
accepted_faultless bank s t c h = sym h.refusal_is

move_on : (o : Option Flaw) (st st' : State) → o ≡ None → elim o [ None ↦ st' | Some f ↦ st ] ≡ st'
move_on None st st' e = refl
move_on (Some f) st st' e = let z : ◌≡◌ {A = ℕ} 0 1 = cc in absurd (omega arith)

pub accepted_moves : (bank : Meaning) (s t : Contents) (c : Call) → Called bank s t c done → Sound bank s → state_of bank t ≡ moved (state_of bank s) c
accepted_moves bank s t c h sound =
    h.state_is sound ∙ move_on (fault (state_of bank s) c) (state_of bank s) (moved (state_of bank s) c) (accepted_faultless bank s t c h)

-- A REFUSED CALL

-- a fault of the model, or want of memory
pub refused_call : (bank : Meaning) (s t : Contents) (c : Call) (f : Fault) (b : Bool) → eqb (number_of f) 0 ≡ b → CalledWithMemory b bank s t c (refused (flaw f))
    → Result (fault (state_of bank s) c ≡ Some (flaw f)) (number_of f ≡ 0)
refused_call bank s t c f true e h = Err (eqb-true (number_of f) 0 e)
refused_call bank s t c f false e h = Ok (sym h.refusal_is)

-- LAYING

pub lays_ok : (rows bank-rows : List PairRow) (levels outs : List ℕ) (s t : Contents) → bank-rows ≡ rows
    → Made (pair_table rows) s → Called (pair_table bank-rows) s t (lay levels) done
    → (laid_with rows levels outs ≡ Ok tt) × (state_of (pair_table rows) t ≡ model.anew (pair_table rows) levels []) × Sound (pair_table rows) t
lays_ok rows bank-rows levels outs s t e made called =
    let bank = pair_table rows in
    let C : List PairRow → Type 0 = λ rs. Called (pair_table rs) s t (lay levels) done in
    let h : Called bank s t (lay levels) done = subst C e called in
    let none : fault (blank bank) (lay levels) ≡ None = ap (λ st. fault st (lay levels)) (sym made.state_is) ∙ accepted_faultless bank s t (lay levels) h in (
      ap (λ o. placing o (lay_place (length levels) outs)) none,
      accepted_moves bank s t (lay levels) h made.sound,
      h.sound made.sound,
    )

pub lays_not : (rows bank-rows : List PairRow) (levels outs : List ℕ) (s t : Contents) (r : Result (Unit {0}) Fault) (e : Refused) → bank-rows ≡ rows
    → Made (pair_table rows) s → Laid (pair_table bank-rows) s t levels r → IsErrAnd r (λ f. located e ≡ lay_place (length levels) outs (flaw f))
    → RefusedBy (laid_with rows levels outs) e
lays_not rows bank-rows levels outs s t (Ok u) e same made called place = absurd place
lays_not rows bank-rows levels outs s t (Err f) e same made called place =
    let bank = pair_table rows in
    let C : List PairRow → Type 0 = λ rs. Laid (pair_table rs) s t levels (Err f) in
    let h : Laid bank s t levels (Err f) = subst C same called in
    elim (refused_call bank s t (lay levels) f (eqb (number_of f) 0) refl h) [
      | Ok found ↦
          let there : fault (blank bank) (lay levels) ≡ Some (flaw f) = ap (λ st. fault st (lay levels)) (sym made.state_is) ∙ found in
          inl (ap (λ o. placing o (lay_place (length levels) outs)) there ∙ ap Err (sym place))
      | Err zero ↦
          inr (without_memory e (place ∙ ap (λ k. cond (eqb k 5) (record { number = k; line = length levels + place_of f + 1; byte = get_or outs (place_of f) 0 }) (record { number = k; line = 0; byte = 0 })) zero))
    ]
