use Rattle.std.proofs.Common.{◌≡◌, ℕ, List, T, ltb, vec_len}
use Rattle.semantics.specs.Sets.{all}
use Rattle.derivation.specs.Indexing.{lists_of, put_body}
use Rattle.derivation.proofs.index.Index.strike.Given as goal

abbrev pub invariant-loop-literal : goal.invariant-loop-literal
invariant-loop-literal l =
    (vec_len l.self.woken ≡ vec_len l.initial.self.woken) ×
    T (all (λ x. ltb x.atom (vec_len l.initial.self.woken)) l.literal-iterator.iter.rest.now) ×
    ((number : ℕ) (before : List (List ℕ)) → lists_of l.initial.self ≡ put_body number l.body before → lists_of l.self ≡ put_body number l.literal-iterator.iter.rest.now before)
