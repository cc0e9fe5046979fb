use Rattle.semantics.proofs.Stacks.{rounds_bound}
use Rattle.semantics.proofs.theorems.rounds_bound_the_search.Goals as goal

pub returns : goal.returns
returns c = rounds_bound
