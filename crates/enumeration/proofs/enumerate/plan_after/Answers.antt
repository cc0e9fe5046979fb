use Rattle.std.proofs.Common.{sym, subst}
use Rattle.lines.specs.Stacks.{newest_first}
use Rattle.semantics.specs.Search.{back, Seeks}
use Rattle.bounds.specs.Programs.{program_of}
use Rattle.enumeration.specs.Visits.{GoesOn}
use Rattle.enumeration.proofs.Seeking.{none_left}
use Rattle.enumeration.proofs.enumerate.plan_after.Goals as goal

pub returns-else-step_back-clause-seeks : goal.returns-else-step_back-clause-seeks
returns-else-step_back-clause-seeks g c =
    let p = program_of g.M.Module.meaning c.args.program.now in
    let start = back (newest_first c.args.choices.now) in
    let left = newest_first c.step_back.new.choices in
    subst (Seeks p start left c.args.plan.now) (sym c.if-step_back.false) (none_left p start left c.args.plan.now (subst (GoesOn p start) c.if-step_back.ensures.back (λ k ok here. here)))
