use Rattle.std.proofs.Common.{◌≡◌, ℕ, Bool, true, false, not, ◌&&◌, ltb, length, refl, arith, rules}
use Rattle.std.proofs.lemmas.Iterator.{YieldsList-from_range, cases_from_any}
use Rattle.semantics.specs.Sheets.{level}
use Rattle.checks.proofs.Lowest.{is_some_below}
use Rattle.checks.proofs.levels.is_high_reader.Goals as goal

pub returns : goal.returns
returns g c =
    let bank = g.M.Module.meaning c.args.bank.now in
    let levels = c.args.levels.now in
    let test : ℕ → Bool = λ a. bank.reads c.args.position a && not (ltb (level levels a) (level levels (bank.atom c.args.position))) in
    is_some_below test (length levels) c.any.result (cases_from_any _ _ c.any.result (λ a. test a ≡ true) (λ a. test a ≡ false) c.any.ensures.ran (YieldsList-from_range 0 (length levels) (length levels) refl (omega arith)) (λ x q k. search rules) (λ x q k. search rules))
