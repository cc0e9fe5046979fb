-- What the rounds of narrowing come to.
use Rattle.semantics.specs.Plans.{Program, WellFormed}
use Rattle.semantics.specs.Alternating.{Pair, Marks, Last}

-- over a well-formed program, the pair is the one at which the rounds end
abbrev pub NarrowedTo : Program → Marks → Pair → Type 0
NarrowedTo p marks q = WellFormed p → Last p marks q
