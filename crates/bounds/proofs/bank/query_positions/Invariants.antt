use Rattle.std.proofs.Common.{◌≡◌, not, ◌&&◌, ◌||◌}
use Rattle.bounds.specs.Pairs.{atoms_of}
use Rattle.bounds.specs.Unknown.{reads_none}
use Rattle.bounds.proofs.Outputs.{found}
use Rattle.bounds.proofs.bank.query_positions.Given as goal

abbrev pub invariant-loop-position : goal.invariant-loop-position
invariant-loop-position g l =
    (l.given.sure.now ≡ found (g.M.Module.meaning l.bank) (λ k. reads_none (g.M.Module.meaning l.bank) l.unknown k && (g.M.Module.meaning l.bank).given k l.sure) (atoms_of l.initial.given) l.position) ×
    (l.given.possible.now ≡ found (g.M.Module.meaning l.bank) (λ k. not (reads_none (g.M.Module.meaning l.bank) l.unknown k) || (g.M.Module.meaning l.bank).given k l.sure) (atoms_of l.initial.given) l.position) ×
    (l.given.sure.ghost_name ≡ l.initial.given.sure.ghost_name) ×
    (l.given.possible.ghost_name ≡ l.initial.given.possible.ghost_name)
