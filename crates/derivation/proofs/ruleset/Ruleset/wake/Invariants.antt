use Rattle.std.proofs.Common.{◌≡◌, ◌+◌, ◌≤◌, length, take, drop}
use Rattle.semantics.specs.Sets.{◌∈◌}
use Rattle.derivation.specs.Rulesets.{rules_in}
use Rattle.derivation.specs.Worklist.{absent, Advances}
use Rattle.derivation.proofs.ruleset.Ruleset.wake.Given as goal

abbrev pub invariant-loop-number : goal.invariant-loop-number
invariant-loop-number l =
    (length l.pending.entries.now ≡ length l.initial.pending.entries.now) ×
    (l.pending.len + absent l.model ≡ l.initial.pending.len + absent l.initial.model) ×
    (absent l.model ≤ absent l.initial.model) ×
    Advances (rules_in l.self) l.by (λ j. j ∈ l.number-items) (λ j. j ∈ drop l.number-index l.number-items) l.initial.model (take l.initial.pending.len l.initial.pending.entries.now) l.model (take l.pending.len l.pending.entries.now)
