use Rattle.std.proofs.Common.{◌≡◌, rules, true, false, ap, ◌∙◌}
use Rattle.std.proofs.lemmas.Iterator.{first_from_Range}
use Rattle.semantics.specs.Sheets.{lowest, reads_too_high}
use Rattle.checks.proofs.Lowest.{is_lowest}
use Rattle.checks.proofs.levels.high_reader.Goals as goal

pub returns : goal.returns
returns g c =
    let test = reads_too_high c.args.levels.now (g.M.Module.meaning c.args.bank.now) in
    is_lowest test c.outputs.result c.find.result (first_from_Range _ _ _ c.find.result (λ k. test k ≡ true) (λ k. test k ≡ false) c.find.ensures.ran (λ x q k. search rules) (λ x q k. search rules))
    ∙ ap (lowest test) c.outputs.ensures
