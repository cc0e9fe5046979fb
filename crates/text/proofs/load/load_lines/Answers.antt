use Rattle.std.proofs.Common.{ℕ, List, [], refl, subst}
use Rattle.std.proofs.lemmas.Result.{err_from_is_err_and}
use Rattle.declarations.specs.Declaring.{Declarations}
use Rattle.text.specs.Sheets.{Holds}
use Rattle.declarations.specs.Shown.{saying, to_come}
use Rattle.text.proofs.Loading.{declared_text, not_laid, not_ruled, loads}
use Rattle.text.proofs.load.load_lines.Goals as goal

pub returns-in_err-sheet : goal.returns-in_err-sheet
returns-in_err-sheet c =
    let text = c.args.text.now in
    let reader = c.read_preamble.new.reader in
    let d = saying c.read_preamble.new.preamble in
    let p : Declarations = record { declared = d; line = reader.line; rest = to_come reader } in
    let first = c.new-reader.result in
    let new = c.new-reader.ensures in
    let read = declared_text text (saying c.in_ok-preamble.preamble) first.last first.line (to_come first) p c.in_ok-preamble.ensures new.last new.line new.lines c.in_ok-read_preamble.ensures in
    let q = err_from_is_err_and c.from_residual-in_err-sheet.result c.from_residual-in_err-sheet.ensures.1 in
    rw (q.1, q.2) (not_laid text p read c.as_slice.result.now c.as_slice-2.result.now c.in_err-sheet.field-0.0 c.as_slice.ensures.value c.as_slice-2.ensures.value c.in_err-sheet.ensures)

pub returns-in_err-enter_lines : goal.returns-in_err-enter_lines
returns-in_err-enter_lines c =
    let text = c.args.text.now in
    let reader = c.read_preamble.new.reader in
    let d = saying c.read_preamble.new.preamble in
    let p : Declarations = record { declared = d; line = reader.line; rest = to_come reader } in
    let first = c.new-reader.result in
    let new = c.new-reader.ensures in
    let read = declared_text text (saying c.in_ok-preamble.preamble) first.last first.line (to_come first) p c.in_ok-preamble.ensures new.last new.line new.lines c.in_ok-read_preamble.ensures in
    let lay = c.in_ok-sheet.ensures in
    let H : List ℕ → Type 0 = λ ls. Holds d.rows ls [] c.in_ok-sheet.sheet in
    let holds = subst H c.as_slice.ensures.value lay.1 in
    let q = err_from_is_err_and c.from_residual-in_err-enter_lines.result c.from_residual-in_err-enter_lines.ensures.1 in
    rw (q.1, q.2) (not_ruled text p read c.as_slice.result.now c.as_slice-2.result.now c.as_slice.ensures.value c.as_slice-2.ensures.value lay.0 c.in_err-enter_lines.field-0.0 (c.in_err-enter_lines.ensures d [] refl refl holds))

pub returns : goal.returns
returns c =
    let text = c.args.text.now in
    let reader = c.read_preamble.new.reader in
    let d = saying c.read_preamble.new.preamble in
    let p : Declarations = record { declared = d; line = reader.line; rest = to_come reader } in
    let first = c.new-reader.result in
    let new = c.new-reader.ensures in
    let read = declared_text text (saying c.in_ok-preamble.preamble) first.last first.line (to_come first) p c.in_ok-preamble.ensures new.last new.line new.lines c.in_ok-read_preamble.ensures in
    let lay = c.in_ok-sheet.ensures in
    let H : List ℕ → Type 0 = λ ls. Holds d.rows ls [] c.in_ok-sheet.sheet in
    let holds = subst H c.as_slice.ensures.value lay.1 in
    loads text p read c.as_slice.result.now c.as_slice-2.result.now c.as_slice.ensures.value c.as_slice-2.ensures.value lay.0 c.enter_lines.new.sheet c.read_preamble.new.preamble.names refl (c.in_ok-enter_lines.ensures d [] refl refl holds)
