use Rattle.grammar.proofs.Rendering as rendering
use Rattle.grammar.proofs.theorems.rendered_is_accepted.Goals as goal

pub returns : goal.returns
returns c = rendering.rendered_is_accepted
