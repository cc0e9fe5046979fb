use Rattle.std.proofs.Common.{◌≡◌, map, take}
use Rattle.few.specs.Listed.{listed}
use Rattle.records.proofs.body.Body.literals.Given as goal

abbrev pub invariant-loop-placed : goal.invariant-loop-placed
invariant-loop-placed l = listed l.literals ≡ map (λ p. p.literal) (take l.placed-index (listed l.self.placed))
