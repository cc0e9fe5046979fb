-- Literals that are gathered one by one, and cut after the ninth.
use Rattle.std.proofs.Common.{◌≡◌, ℕ, zero, suc, ◌≤◌, List, [], ◌∷◌, ◌++◌, length, take, Ok, Err, Result, sym, refl, ap, ◌∙◌}
use Rattle.std.proofs.lemmas.List.{append_assoc, append-nil, take_all}
use Rattle.records.specs.declared.refusal.Refusal.{Refusal}
use Rattle.records.specs.declared.body.Placed.{Placed}
use Rattle.fields.specs.Pieces.{Field}
use Rattle.records.specs.Reading.{then, literal_in, literals}

-- what was gathered, and then what is still to be read
abbrev pub gathered : List Placed → Result (List Placed) Refusal → Result (List Placed) Refusal
gathered kept (Ok rest) = Ok (take 9 (kept ++ rest))
gathered kept (Err refusal) = Err refusal

pub take_cut : {X : Type 0} (n : ℕ) (xs ys : List X) → take n (take n xs ++ ys) ≡ take n (xs ++ ys)
take_cut zero xs ys = refl
take_cut (suc n) [] ys = refl
take_cut (suc n) (x ∷ xs) ys = ap (λ r. x ∷ r) (take_cut n xs ys)

pub gathered_all : (kept : List Placed) → length kept ≤ 9 → gathered kept (Ok []) ≡ Ok kept
gathered_all kept h = ap Ok (ap (take 9) (append-nil kept) ∙ take_all 9 kept h)

pub gathered_more : (kept : List Placed) (l : Placed) (r : Result (List Placed) Refusal)
    → gathered (take 9 (kept ++ l ∷ [])) r ≡ gathered kept (then r (λ rest. Ok (l ∷ rest)))
gathered_more kept l (Ok rest) = ap Ok (take_cut 9 (kept ++ l ∷ []) rest ∙ ap (take 9) (append_assoc kept (l ∷ []) rest))
gathered_more kept l (Err refusal) = refl

pub gathered_step : (names : List (List ℕ)) (kept more : List Placed) (l : Placed) (f : Field) (fs rest : List Field)
    → fs ≡ f ∷ rest → Ok l ≡ literal_in names f → more ≡ take 9 (kept ++ l ∷ [])
    → gathered more (literals names rest) ≡ gathered kept (literals names fs)
gathered_step names kept more l f fs rest e r p =
    ap (λ k. gathered k (literals names rest)) p ∙ gathered_more kept l (literals names rest)
    ∙ ap (λ t. gathered kept (then t (λ literal. then (literals names rest) (λ ls. Ok (literal ∷ ls))))) r
    ∙ ap (λ k. gathered kept (literals names k)) (sym e)

pub gathered_end : (names : List (List ℕ)) (kept : List Placed) (fs : List Field) → fs ≡ [] → length kept ≤ 9 → Ok kept ≡ gathered kept (literals names fs)
gathered_end names kept fs e h = sym (ap (λ k. gathered kept (literals names k)) e ∙ gathered_all kept h)
