use Rattle.std.proofs.Common.{◌≡◌, ◌≤◌, take}
use Rattle.bounds.specs.Pairs.{pair_of}
use Rattle.bounds.specs.Unknown.{unknown_atoms}
use Rattle.bounds.proofs.bank.list_unknown.Given as goal

abbrev pub invariant-loop-atom : goal.invariant-loop-atom
invariant-loop-atom l = (l.count ≤ l.atom) × (take l.count l.unknown ≡ unknown_atoms (pair_of l.bounds) l.atom)
