-- Declarations one by one.
use Rattle.std.proofs.Common.{◌≡◌, ℕ, Err, Result, sym, ap, ◌∙◌, inl, inr, ⊎_elim}
use Rattle.records.specs.declared.refusal.Refusal.{Refusal}
use Rattle.records.specs.declared.refusal.Refused.{Refused}
use Rattle.records.specs.Reading.{then}
use Rattle.declarations.specs.Declaring.{Located, in_line}
use Rattle.declarations.specs.Shown.{RefusedBy, PlacedIn}

-- an answer that is the same is refused alike
pub refused_same : {X : Type 0} (a b : Result X Located) (e : Refused) → a ≡ b → RefusedBy a e → RefusedBy b e
refused_same a b e same h = ⊎_elim (λ p. inl (sym same ∙ p)) (λ m. inr m) h

-- a refusal of a step is one of the whole
pub refused_then : {X Y : Type 0} (r : Result X Located) (k : X → Result Y Located) (e : Refused) → RefusedBy r e → RefusedBy (then r k) e
refused_then r k e h = ⊎_elim (λ p. inl (ap (λ x. then x k) p)) (λ m. inr m) h

-- a refusal of a record, placed in its line
pub refused_in : {X : Type 0} (n : ℕ) (r : Result X Refusal) (refusal : Refusal) (e : Refused) → r ≡ Err refusal → PlacedIn n refusal e → RefusedBy (in_line n r) e
refused_in n r refusal e p h = ⊎_elim (λ l. inl (ap (in_line n) p ∙ ap Err (sym l))) (λ m. inr m) h
