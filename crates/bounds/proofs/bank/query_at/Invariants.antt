use Rattle.std.proofs.Common.{◌≡◌, length}
use Rattle.bounds.proofs.Outputs.{found}
use Rattle.bounds.proofs.bank.query_at.Given as goal

abbrev pub invariant-loop-position : goal.invariant-loop-position
invariant-loop-position g l = l.outputs ≡ found (g.M.Module.meaning l.bank) (λ p. (g.M.Module.meaning l.bank).given p l.set) (length l.initial.outputs) l.position
