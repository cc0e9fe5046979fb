use Rattle.std.proofs.Common.{◌≡◌, ℕ, List, Ok, Err, Result, ap, ◌∙◌, refl, inl, inr, ⊎_elim, rules, tests}
use Rattle.std.specs.Result.{MatchResult}
use Rattle.faults.specs.declared.Fault.{Fault}
use Rattle.modules.specs.Tables.{rows_of}
use Rattle.declarations.specs.Declaring.{Declared}
use Rattle.records.specs.declared.refusal.Refusal.{Refusal}
use Rattle.records.specs.Reading.{LineRecord, at_byte}
use Rattle.fields.specs.Shown.{declared, left}
use Rattle.records.specs.Shown.{held}
use Rattle.semantics.specs.Modules.{pair_table}
use Rattle.semantics.specs.Rules.{Rule}
use Rattle.semantics.specs.Sheets.{line}
use Rattle.sheet.specs.Calls.{Entered}
use Rattle.sheet.specs.Contents.{contents}
use Rattle.sheet.specs.Faults.{flaw}
use Rattle.grammar.specs.Entering.{literals_of, enter_byte}
use Rattle.text.specs.Sheets.{Enters, Holds}
use Rattle.text.proofs.Entries.{entering_said, enters_ok, enters_not}
use Rattle.text.proofs.load.enter_line.Goals as goal

abbrev said : goal.After-map_err → LineRecord
said c = record { head = c.in_ok-line.line.head; body = held c.in_ok-line.line.body }

abbrev Placed : goal.After-map_err → Result (Unit {0}) Fault → Type 0
Placed c r = MatchResult r (λ u. ◌≡◌ {A = Result (Unit {0}) Refusal} c.map_err.result (Ok u)) (λ f. ◌≡◌ {A = Result (Unit {0}) Refusal} c.map_err.result (Err (at_byte f (enter_byte (held c.in_ok-line.line.body) (flaw f)))))

module _ (c : goal.After-map_err) (d : Declared) (rules : List Rule) (n : ℕ) (names : declared c.args.names.now ≡ d.names) (holds : Holds d.rows d.levels rules c.args.sheet.now) where
  by : (r : Result (Unit {0}) Fault) → Entered (pair_table (rows_of c.args.sheet.now.bank)) (contents c.args.sheet.now) (contents c.enter.new.self) (said c).head c.as_slice.result.now r
      → Placed c r → Enters d rules n c.args.letter (left c.args.fields) c.enter.new.self c.map_err.result
  by (Ok u) called is =
      let same : c.as_slice.result.now ≡ literals_of (said c).body = c.as_slice.ensures ∙ c.literals.ensures in
      let read = entering_said d rules n c.args.letter (left c.args.fields) (declared c.args.names.now) (said c) names c.in_ok-line.ensures in
      let h = enters_ok d rules n (contents c.args.sheet.now) (contents c.enter.new.self) (rows_of c.args.sheet.now.bank) (said c) c.as_slice.result.now holds.bank_is same holds.state_is holds.sound called in
      rw is (line (said c).head (literals_of (said c).body), read ∙ h.0, record { bank_is = ap rows_of c.enter.ensures.same ∙ holds.bank_is; state_is = h.1; sound = h.2 })
  by (Err f) called is =
      let same : c.as_slice.result.now ≡ literals_of (said c).body = c.as_slice.ensures ∙ c.literals.ensures in
      let read = entering_said d rules n c.args.letter (left c.args.fields) (declared c.args.names.now) (said c) names c.in_ok-line.ensures in
      let h = enters_not d rules n (contents c.args.sheet.now) (contents c.enter.new.self) (rows_of c.args.sheet.now.bank) (said c) c.as_slice.result.now f (enter_byte (said c).body (flaw f)) holds.bank_is same holds.state_is called refl in
      rw is (⊎_elim (λ e. inl (read ∙ e)) (λ m. inr m) h)

pub returns : goal.returns
returns c d ruled n names holds =
    let placed : Placed c c.enter.result = search (rules, tests) in
    by c d ruled n names holds c.enter.result c.enter.ensures.entered placed
