-- The newest choice.
use Rattle.std.proofs.Common.{◌≡◌, List, [], ◌∷◌, ◌++◌, reverse, length, ap, ◌∙◌}
use Rattle.std.proofs.lemmas.List.{reverse-append, length-reverse, length-take-le}
use Rattle.lines.specs.declared.stack.Stack.{Stack}
use Rattle.lines.specs.Stacks.{held, newest_first}
use Rattle.semantics.specs.declared.Literal.{Literal}

-- the newest entry comes before the others
pub reverse_push : {A : Type 0} (xs ys : List A) (y : A) → ys ≡ xs ++ y ∷ [] → reverse ys ≡ y ∷ reverse xs
reverse_push xs ys y e = ap reverse e ∙ reverse-append xs (y ∷ [])

-- as many as the stack holds
pub held_count : (s : Stack Literal) → length (newest_first s) ≡ s.len
held_count s = length-reverse (held s) ∙ length-take-le s.len s.entries.now s.within
