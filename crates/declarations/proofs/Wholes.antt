-- The last byte of a text.
use Rattle.std.proofs.Common.{◌≡◌, ℕ, suc, ◌-◌, ◌≤◌, eqb, List, [], ◌∷◌, length, get_or, sym, refl, ap, ◌∙◌, arith}
use Rattle.declarations.specs.Whole.{ended}

pub ended_last : (xs : List ℕ) → 1 ≤ length xs → eqb (get_or xs (length xs - 1) 0) 10 ≡ ended xs
ended_last [] h = absurd (omega arith)
ended_last (x ∷ []) h = refl
ended_last (x ∷ y ∷ ys) h =
    let up : suc (suc (length ys)) - 1 ≡ suc (length ys) = omega arith in
    let down : suc (length ys) - 1 ≡ length ys = omega arith in
    ap (λ k. eqb (get_or (x ∷ y ∷ ys) k 0) 10) up ∙ ap (λ k. eqb (get_or (y ∷ ys) k 0) 10) (sym down) ∙ ended_last (y ∷ ys) (omega arith)
