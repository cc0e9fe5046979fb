use Rattle.std.proofs.Common.{◌≡◌, drop, vec_len}
use Rattle.derivation.specs.Indexing.{lists_of, no_lists, put_rules}
use Rattle.lines.specs.Lines.{rules_of}
use Rattle.derivation.proofs.index.Index.of.Given as goal

abbrev pub invariant-loop-number : goal.invariant-loop-number
invariant-loop-number l =
    (vec_len l.index.woken ≡ l.atoms) ×
    (put_rules l.number (drop l.number (rules_of l.lines)) (lists_of l.index) ≡ put_rules 0 (rules_of l.lines) (no_lists l.atoms))
