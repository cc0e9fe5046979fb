use Rattle.std.proofs.Common.{◌≡◌, ◌++◌, vec_items, codes}
use Rattle.printout.specs.Printed.{present_names, texts}
use Rattle.printout.proofs.plan_line.Given as goal

-- the line, with the names that are left
abbrev pub invariant-loop-name : goal.invariant-loop-name
invariant-loop-name l =
    vec_items l.line ++ present_names (texts l.name-iterator.a.rest.now) l.name-iterator.b.rest.now ≡ codes "plan" ++ present_names (texts l.names) l.plan
