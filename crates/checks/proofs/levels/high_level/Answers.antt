use Rattle.std.proofs.Common.{◌≡◌, true, false, ltb, rules, ◌∙◌}
use Rattle.std.proofs.lemmas.Iterator.{YieldsList-from_slice, IsFirst-from_position}
use Rattle.checks.proofs.Lowest.{is_lowest_place}
use Rattle.checks.proofs.levels.high_level.Goals as goal

pub returns : goal.returns
returns c =
    let same : c.map.result ≡ c.position.result = search rules in
    same ∙ is_lowest_place (λ x. ltb 15 x) c.args.levels.now c.position.result
    (IsFirst-from_position _ _ c.position.result (λ x. ltb 15 x ≡ true) (λ x. ltb 15 x ≡ false) c.position.ensures.ran (YieldsList-from_slice c.args.levels.now c.iter.ensures.rest) (λ x q k. search rules) (λ x q k. search rules))
