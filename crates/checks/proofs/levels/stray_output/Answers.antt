use Rattle.std.proofs.Common.{◌≡◌, ℕ, Bool, not, ltb, rules, true, false, ap, ◌∙◌}
use Rattle.std.proofs.lemmas.Iterator.{first_from_Range}
use Rattle.semantics.specs.Sheets.{lowest}
use Rattle.checks.proofs.Lowest.{is_lowest}
use Rattle.checks.proofs.levels.stray_output.Goals as goal

pub returns : goal.returns
returns g c =
    let test : ℕ → Bool = λ k. not (ltb ((g.M.Module.meaning c.args.bank.now).atom k) c.args.atoms) in
    is_lowest test c.outputs.result c.find.result (first_from_Range _ _ _ c.find.result (λ k. test k ≡ true) (λ k. test k ≡ false) c.find.ensures.ran (λ x q k. search rules) (λ x q k. search rules))
    ∙ ap (lowest test) c.outputs.ensures
