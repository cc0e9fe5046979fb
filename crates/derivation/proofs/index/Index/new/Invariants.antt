use Rattle.std.proofs.Common.{◌≡◌, ◌≤◌, vec_len, vec_capacity}
use Rattle.derivation.specs.Indexing.{lists_of, no_lists}
use Rattle.derivation.proofs.index.Index.new.Given as goal

abbrev pub invariant-loop : goal.invariant-loop
invariant-loop l =
    (vec_len l.woken ≡ l.counter) ×
    (l.atoms ≤ vec_capacity l.woken) ×
    (lists_of (record { woken = l.woken }) ≡ no_lists l.counter)
