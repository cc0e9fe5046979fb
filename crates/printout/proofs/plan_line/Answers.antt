use Rattle.std.proofs.Common.{◌≡◌, ℕ, ◌⊎◌, inl, inr, List, [], ◌∷◌, ◌++◌, vec_items, Bor, refl, ap, ◌∙◌, append-nil}
use Rattle.std.proofs.lemmas.Slice.Zip.{either_empty_from_Zip}
use Rattle.printout.specs.Printed.{present_names, texts}
use Rattle.printout.proofs.plan_line.Goals as goal

no_name_left : (names : List (Bor (List ℕ))) (plan : List ℕ) → (names ≡ []) ⊎ (plan ≡ []) → present_names (texts names) plan ≡ []
no_name_left [] plan h = refl
no_name_left (n ∷ ns) [] h = refl
no_name_left (n ∷ ns) (b ∷ bs) (inl h) = cc
no_name_left (n ∷ ns) (b ∷ bs) (inr h) = cc

pub returns : goal.returns
returns c =
    let left = no_name_left _ _ (either_empty_from_Zip c.loop-name.name-iterator c.next.new.self c.next.result c.in-None.is c.next.ensures.steps) in
    let whole = rw (left, append-nil (vec_items c.loop-name.line)) at c.loop-name.invariant in
    c.in_ok-push-2.ensures.items ∙ ap (λ xs. xs ++ 10 ∷ []) whole
