use Rattle.std.proofs.Common.{◌≡◌, length, Ok, Result, ap, ◌∙◌, subst, rules, tests}
use Rattle.std.specs.Result.{IsErrAnd}
use Rattle.std.proofs.lemmas.Result.{err_from_is_err_and}
use Rattle.faults.specs.declared.Fault.{Fault}
use Rattle.semantics.specs.Modules.{pair_table}
use Rattle.modules.specs.Tables.{rows_of}
use Rattle.sheet.specs.Calls.{Laid}
use Rattle.sheet.specs.Contents.{contents}
use Rattle.sheet.specs.Faults.{flaw}
use Rattle.declarations.specs.Shown.{located}
use Rattle.grammar.specs.Entering.{lay_place}
use Rattle.text.proofs.Laying.{lays_ok, lays_not}
use Rattle.text.proofs.load.lay_sheet.Goals as goal

pub returns : goal.returns
returns c =
    let blank = c.blank-sheet.ensures in
    let sheet = c.blank-sheet.result in
    let bank : rows_of sheet.bank ≡ rows_of c.args.table = ap rows_of blank.same in
    let call = c.lay.ensures in
    let after : rows_of c.lay.new.self.bank ≡ rows_of sheet.bank = ap rows_of call.same in
    let L : Result (Unit {0}) Fault → Type 0 = λ r. Laid (pair_table (rows_of sheet.bank)) (contents sheet) (contents c.lay.new.self) c.args.levels.now r in
    let accepted : ◌≡◌ {A = Result (Unit {0}) Fault} c.lay.result (Ok tt) = search (rules, tests) in
    let h = lays_ok (rows_of c.args.table) (rows_of sheet.bank) c.args.levels.now c.args.outs.now (contents sheet) (contents c.lay.new.self) bank blank.made (subst L accepted call.laid) in
    (h.0, record { bank_is = after ∙ bank; state_is = h.1; sound = h.2 })

pub returns-in_err-map_err : goal.returns-in_err-map_err
returns-in_err-map_err c =
    let blank = c.blank-sheet.ensures in
    let sheet = c.blank-sheet.result in
    let bank : rows_of sheet.bank ≡ rows_of c.args.table = ap rows_of blank.same in
    let placed : IsErrAnd c.lay.result (λ f. located c.in_err-map_err.field-0.0 ≡ lay_place (length c.args.levels.now) c.args.outs.now (flaw f)) = search (rules, tests) in
    let p = err_from_is_err_and c.from_residual.result c.from_residual.ensures.1 in
    rw (p.1, p.2) (lays_not (rows_of c.args.table) (rows_of sheet.bank) c.args.levels.now c.args.outs.now (contents sheet) (contents c.lay.new.self) c.lay.result c.in_err-map_err.field-0.0 bank blank.made c.lay.ensures.laid placed)
