-- A text's next line and a line's next field, by how far the next separator is.
use Rattle.std.proofs.Common.{◌≡◌, ℕ, suc, ◌+◌, ◌-◌, ◌<◌, ◌≤◌, Bool, true, false, cond, eqb, ltb, leb, List, [], ◌∷◌, length, take, drop, sym, refl, ap, ◌∙◌, ⊎_elim, inl, inr, not, arith}
use Rattle.std.specs.List.{position, position_or_len}
use Rattle.std.specs.Option.{unwrap_or}
use Rattle.std.proofs.lemmas.List.Sums.{prefix_len-le-length}
use Rattle.std.proofs.lemmas.List.Recursion.{is_position_or_len}
use Rattle.std.proofs.lemmas.List.{drop-drop, length-drop, length-take-le}
use Rattle.std.proofs.lemmas.Bool.{le-leb, lt-leb, lt-ltb, le-ltb, cases_lt}
use Rattle.fields.specs.Pieces.{run, onto, lines_of, fields_of, Field, placed, fields_from}

-- the first separator's place, or where there is none, the length
pub run_is_position : (c : ℕ) (xs : List ℕ) → run c xs ≡ unwrap_or (position (λ b. eqb b c) xs) (length xs)
run_is_position c xs =
    is_position_or_len (run c) (λ b. eqb b c) refl (λ b bs. refl) xs
    ∙ elim (cases_lt (position_or_len (λ b. eqb b c) xs) (length xs)) [
      | inl l ↦ rw (lt-ltb _ _ l) refl
      | inr l ↦ rw (le-ltb _ _ l) (omega (arith, prefix_len-le-length (λ b. not (eqb b c)) xs))
    ]

pub run_le : (c : ℕ) (xs : List ℕ) → run c xs ≤ length xs
run_le c [] = omega arith
run_le c (b ∷ bs) = go (run_le c bs) (eqb b c)
  where
    go : run c bs ≤ length bs → (t : Bool) → cond t 0 (1 + run c bs) ≤ suc (length bs)
    go ih true = omega arith
    go ih false = omega arith

below_suc : (m n : ℕ) → ltb m n ≡ ltb (suc m) (suc n)
below_suc m n =
    ⊎_elim
    (λ l. lt-ltb m n l ∙ sym (lt-ltb (suc m) (suc n) (omega arith)))
    (λ l. le-ltb m n l ∙ sym (le-ltb (suc m) (suc n) (omega arith)))
    (cases_lt m n)

-- a text that is not empty: its first line, and the lines after it
pub lines_step : (xs : List ℕ) → 0 < length xs → lines_of xs ≡ take (run 10 xs) xs ∷ lines_of (drop (run 10 xs + 1) xs)
lines_step [] h = absurd (omega arith)
lines_step (b ∷ []) h = go (eqb b 10)
  where
    go : (t : Bool) → cond t ([] ∷ []) ((b ∷ []) ∷ []) ≡ take (cond t 0 1) (b ∷ []) ∷ lines_of (drop (cond t 0 1 + 1) (b ∷ []))
    go true = refl
    go false = refl
lines_step (b ∷ x ∷ xs) h = go (lines_step (x ∷ xs) (omega arith)) (eqb b 10)
  where
    go : lines_of (x ∷ xs) ≡ take (run 10 (x ∷ xs)) (x ∷ xs) ∷ lines_of (drop (run 10 (x ∷ xs) + 1) (x ∷ xs)) → (t : Bool)
        → cond t ([] ∷ lines_of (x ∷ xs)) (onto b (lines_of (x ∷ xs)))
        ≡ take (cond t 0 (1 + run 10 (x ∷ xs))) (b ∷ x ∷ xs) ∷ lines_of (drop (cond t 0 (1 + run 10 (x ∷ xs)) + 1) (b ∷ x ∷ xs))
    go ih true = refl
    go ih false =
        let r = run 10 (x ∷ xs) in
        let one : 1 + r ≡ suc r = omega arith in
        let two : suc r + 1 ≡ suc (r + 1) = omega arith in
        ap (onto b) ih ∙ rw (one, two)

-- the first field, and those after it, where a comma parts them
pub fields_step : (xs : List ℕ) → fields_of xs ≡ take (run 44 xs) xs ∷ cond (ltb (run 44 xs) (length xs)) (fields_of (drop (run 44 xs + 1) xs)) []
fields_step [] = refl
fields_step (b ∷ bs) = go (fields_step bs) (eqb b 44)
  where
    go : fields_of bs ≡ take (run 44 bs) bs ∷ cond (ltb (run 44 bs) (length bs)) (fields_of (drop (run 44 bs + 1) bs)) [] → (t : Bool)
        → cond t ([] ∷ fields_of bs) (onto b (fields_of bs))
        ≡ take (cond t 0 (1 + run 44 bs)) (b ∷ bs) ∷ cond (ltb (cond t 0 (1 + run 44 bs)) (suc (length bs))) (fields_of (drop (cond t 0 (1 + run 44 bs) + 1) (b ∷ bs))) []
    go ih true = let t : ltb 0 (suc (length bs)) ≡ true = lt-ltb _ _ (omega arith) in rw t
    go ih false =
        let r = run 44 bs in
        let one : 1 + r ≡ suc r = omega arith in
        let two : suc r + 1 ≡ suc (r + 1) = omega arith in
        ap (onto b) ih ∙ rw (one, two) (ap (λ t. (b ∷ take r bs) ∷ cond t (fields_of (drop (r + 1) bs)) []) (below_suc r (length bs)))

-- the field that begins at a byte of the line, and those after it
pub from_step : (at : ℕ) (line : List ℕ) → at ≤ length line
    → fields_from at line ≡ record { bytes = take (run 44 (drop at line)) (drop at line); at = at } ∷ fields_from (at + run 44 (drop at line) + 1) line
from_step at line h =
    let xs = drop at line in
    let r = run 44 xs in
    let long : length (take r xs) ≡ r = length-take-le r xs (run_le 44 xs) in
    let t : leb at (length line) ≡ true = le-leb _ _ h in
    let d : drop (r + 1) xs ≡ drop (at + (r + 1)) line = drop-drop (r + 1) at line in
    let a : at + (r + 1) ≡ at + r + 1 = omega arith in
    let n : length xs ≡ length line - at = length-drop at line in
    let same : ltb r (length xs) ≡ leb (at + r + 1) (length line) =
    ⊎_elim
    (λ l. lt-ltb r (length xs) l ∙ sym (le-leb (at + r + 1) (length line) (omega arith)))
    (λ l. le-ltb r (length xs) l ∙ sym (lt-leb (at + r + 1) (length line) (omega arith)))
    (cases_lt r (length xs)) in
    let first : fields_from at line ≡ placed at (take r xs ∷ cond (ltb r (length xs)) (fields_of (drop (r + 1) xs)) []) = rw t (ap (placed at) (fields_step xs)) in
    first ∙ rw (long, same, d, a) (go (leb (at + r + 1) (length line)) (at + r + 1) (fields_of (drop (at + r + 1) line)) (record { bytes = take r xs; at = at }))
  where
    go : (t : Bool) (k : ℕ) (fs : List (List ℕ)) (f : Field) → f ∷ placed k (cond t fs []) ≡ f ∷ cond t (placed k fs) []
    go true k fs f = refl
    go false k fs f = refl

-- the same steps, by a part that ends at the next separator
pub next_field : (at : ℕ) (line bytes : List ℕ) (start : ℕ) → at ≤ length line → start ≡ at
    → bytes ≡ take (run 44 (drop at line)) (drop at line) → length bytes ≡ run 44 (drop at line)
    → fields_from at line ≡ record { bytes = bytes; at = start } ∷ fields_from (at + (length bytes + 1)) line
next_field at line bytes start h s e l =
    let a : at + (length bytes + 1) ≡ at + run 44 (drop at line) + 1 = omega arith in
    from_step at line h ∙ rw (a, s, e)

pub next_line : (at : ℕ) (text bytes : List ℕ) → at < length text
    → bytes ≡ take (run 10 (drop at text)) (drop at text) → length bytes ≡ run 10 (drop at text)
    → lines_of (drop at text) ≡ bytes ∷ lines_of (drop (at + length bytes + 1) text)
next_line at text bytes h e l =
    let r = run 10 (drop at text) in
    let n : 0 < length (drop at text) = omega (arith, length-drop at text) in
    let a : at + length bytes + 1 ≡ at + (r + 1) = omega arith in
    let d : drop (r + 1) (drop at text) ≡ drop (at + (r + 1)) text = drop-drop (r + 1) at text in
    lines_step (drop at text) n ∙ rw (a, e, ← d)
