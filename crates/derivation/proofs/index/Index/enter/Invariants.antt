use Rattle.std.proofs.Common.{◌≡◌, take, vec_len}
use Rattle.derivation.specs.Indexing.{lists_of, put_body}
use Rattle.derivation.proofs.index.Index.enter.Given as goal

abbrev pub invariant-loop-place : goal.invariant-loop-place
invariant-loop-place l =
    (vec_len l.self.woken ≡ vec_len l.initial.self.woken) ×
    (lists_of l.self ≡ put_body l.number (take l.place l.body) (lists_of l.initial.self))
