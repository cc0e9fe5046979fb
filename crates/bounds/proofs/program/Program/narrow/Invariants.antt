use Rattle.std.proofs.Common.{◌≡◌}
use Rattle.semantics.specs.Plans.{WellFormed}
use Rattle.semantics.specs.Alternating.{marks_in}
use Rattle.derivation.specs.Rulesets.{atoms_in}
use Rattle.bounds.specs.Programs.{program_of}
use Rattle.bounds.specs.Pairs.{pair_of, atoms_of}
use Rattle.bounds.proofs.Ending.{Underway}
use Rattle.bounds.proofs.program.Program.narrow.Given as goal

abbrev pub invariant-loop-turn : goal.invariant-loop-turn
invariant-loop-turn g l =
    (atoms_of l.bounds ≡ atoms_in l.self.rules.now) ×
    (atoms_of l.given ≡ atoms_in l.self.rules.now) ×
    (l.bounds.sure.ghost_name ≡ l.initial.bounds.sure.ghost_name) ×
    (l.bounds.possible.ghost_name ≡ l.initial.bounds.possible.ghost_name) ×
    (WellFormed (program_of g.M.Module.meaning l.self) → Underway (program_of g.M.Module.meaning l.self) (marks_in l.marks) l._turn (pair_of l.bounds))
