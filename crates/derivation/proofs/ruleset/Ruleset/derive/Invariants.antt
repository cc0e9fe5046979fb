use Rattle.std.proofs.Common.{◌≡◌, ◌+◌, ◌*◌, ◌≤◌, length, take}
use Rattle.derivation.specs.Rulesets.{rules_in}
use Rattle.derivation.specs.Worklist.{absent, Advances, Nothing}
use Rattle.derivation.proofs.ruleset.Ruleset.derive.Given as goal

abbrev pub invariant-loop-atom : goal.invariant-loop-atom
invariant-loop-atom l =
    (length l.pending.entries.now ≡ length l.initial.pending.entries.now) ×
    (l.pending.len + absent l.model ≤ l.initial.pending.len + absent l.initial.model) ×
    Advances (rules_in l.self) l.by Nothing Nothing l.initial.model (take l.initial.pending.len l.initial.pending.entries.now) l.model (take l.pending.len l.pending.entries.now)

abbrev pub decreases-loop-atom : goal.decreases-loop-atom
decreases-loop-atom l = 2 * absent l.model + l.pending.len
