use Rattle.std.proofs.Common.{◌≡◌, ◌-◌, length, take, drop, ◌∙◌, ap, sym, refl, arith, rules, tests}
use Rattle.std.specs.List.{position}
use Rattle.std.proofs.lemmas.Iterator.{YieldsList-from_slice}
use Rattle.std.proofs.lemmas.Iterator.Search.{position_from_yields_List}
use Rattle.std.proofs.lemmas.List.{take_rest, length-take-le, length-drop}
use Rattle.fields.specs.Pieces.{run}
use Rattle.fields.proofs.Parting.{run_is_position, run_le}
use Rattle.fields.proofs.part.part_at.Goals as goal
use lib.Dec.{eqb}

pub returns : goal.returns
returns c =
    let xs = drop c.args.at c.args.bytes.now in
    let rest : take (length c.args.bytes.now - c.args.at) xs ≡ xs = take_rest c.args.bytes.now c.args.at in
    let found : c.position.result ≡ position (λ b. eqb b c.args.separator) (take (length c.args.bytes.now - c.args.at) xs) = position_from_yields_List (λ b. eqb b c.args.separator) _ _ c.position.result c.position.ensures.ran (YieldsList-from_slice _ c.iter.ensures.rest) (λ x b q k. search (rules, tests)) in
    let len : c.unwrap_or-len.result ≡ run c.args.separator xs = c.unwrap_or-len.ensures ∙ rw (found, rest) (sym (run_is_position c.args.separator xs)) in
    let part : take c.unwrap_or-len.result (take (length c.args.bytes.now - c.args.at) xs) ≡ take (run c.args.separator xs) xs = rw (len, rest) in
    let long = ap length part ∙ length-take-le (run c.args.separator xs) xs (run_le c.args.separator xs) in
    record { starts = refl; part = part; long = long; within = omega (arith, long, run_le c.args.separator xs, length-drop c.args.at c.args.bytes.now) }
