use Rattle.std.proofs.Common.{◌≡◌, drop}
use Rattle.semantics.specs.Sheets.{literal_fault}
use Rattle.checks.proofs.line.check_body.Given as goal

abbrev pub invariant-loop-place : goal.invariant-loop-place
invariant-loop-place l = literal_fault l.levels l.head 0 l.body ≡ literal_fault l.levels l.head l.place (drop l.place l.body)
