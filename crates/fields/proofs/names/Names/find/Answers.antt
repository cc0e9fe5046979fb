use Rattle.std.proofs.Common.{◌≡◌, ◌∙◌, ap, rules, tests}
use Rattle.std.specs.Str.{bytes_eq}
use Rattle.std.specs.List.{position}
use Rattle.std.proofs.lemmas.Iterator.{YieldsList-from_slice}
use Rattle.std.proofs.lemmas.Iterator.Search.{position_from_yields_List}
use Rattle.fields.specs.Places.{place_of, parts}
use Rattle.fields.proofs.Finding.{position_in_parts}
use Rattle.fields.proofs.names.Names.find.Goals as goal

pub returns : goal.returns
returns c =
    let found : c.position.result ≡ position (λ x. bytes_eq x.now c.args.name.now) c.deref.result.now = position_from_yields_List (λ x. bytes_eq x.now c.args.name.now) _ _ c.position.result c.position.ensures.ran (YieldsList-from_slice _ c.iter.ensures.rest) (λ x b q k. search (rules, tests)) in
    let same : c.map.result ≡ c.position.result = search (rules, tests) in
    same ∙ found ∙ position_in_parts c.deref.result.now c.args.name.now ∙ ap (λ xs. place_of (parts xs) c.args.name.now) c.deref.ensures.value
