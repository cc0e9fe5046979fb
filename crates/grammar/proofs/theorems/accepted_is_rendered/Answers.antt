use Rattle.grammar.proofs.Accepting as accepting
use Rattle.grammar.proofs.theorems.accepted_is_rendered.Goals as goal

pub returns : goal.returns
returns c = accepting.accepted_is_rendered
