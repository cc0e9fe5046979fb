use Rattle.grammar.proofs.Uniqueness as uniqueness
use Rattle.grammar.proofs.theorems.readings_are_one.Goals as goal

pub returns : goal.returns
returns c = uniqueness.readings_are_one
