use Rattle.std.proofs.Common.{Bool, ◌&&◌, sym, ◌∙◌, rules, tests}
use Rattle.std.proofs.lemmas.Iterator.{YieldsList-from_slice}
use Rattle.std.proofs.lemmas.Iterator.Search.{any_from_yields_List}
use Rattle.semantics.specs.Rules.{Rule, body_holds, is_bar}
use Rattle.lines.specs.Lines.{rule_of}
use Rattle.lines.proofs.Reading.{any_map}
use Rattle.lines.proofs.body.bar_holds.Goals as goal

pub returns : goal.returns
returns c =
    let ls = c.args.lines.now in
    let p : Rule → Bool = λ r. is_bar r.head && body_holds c.args.set.now c.args.by.now r.body in
    any_from_yields_List (λ l. p (rule_of l)) _ _ c.any.result c.any.ensures.ran (YieldsList-from_slice ls cc) (λ x b q k. search (rules, tests)) ∙ sym (any_map p rule_of ls)
