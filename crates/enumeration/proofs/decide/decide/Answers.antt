use Rattle.std.proofs.Common.{◌<◌, ◌≤◌, length, sym, refl, arith, rules}
use Rattle.std.proofs.lemmas.Bool.{leb-true, leb-false, lt-ltb, le-ltb}
use Rattle.lines.specs.Stacks.{held, newest_first}
use Rattle.semantics.specs.Search.{absent}
use Rattle.enumeration.proofs.Backing.{reverse_push, held_count}
use Rattle.enumeration.proofs.decide.decide.Goals as goal

-- src/decide.rt:22:9
pub returns-then-is_full : goal.returns-then-is_full
returns-then-is_full c =
    let count = held_count c.args.choices.now in
    let room = length c.args.choices.now.entries.now in
    let full : room ≤ c.args.choices.now.len = leb-true room c.args.choices.now.len (sym c.if-is_full.ensures) in
    record {
      lender = search rules;
      size = search rules;
      room = sym (le-ltb (length (newest_first c.args.choices.now)) room (omega arith));
      chosen = refl;
    }

-- src/decide.rt:15:1
pub returns : goal.returns
returns c =
    let count = held_count c.args.choices.now in
    let room = length c.args.choices.now.entries.now in
    let less : c.args.choices.now.len < room = leb-false room c.args.choices.now.len (sym c.if-is_full.ensures) in
    record {
      lender = search rules;
      size = search rules;
      room = sym (lt-ltb (length (newest_first c.args.choices.now)) room (omega arith));
      chosen = reverse_push (held c.args.choices.now) (held c.push.new.self) (absent c.args.atom) c.push.ensures.held;
    }
