-- Parting what was put together, and putting together what was parted.
use Rattle.std.proofs.Common.{◌≡◌, ℕ, Bool, true, false, cond, not, ◌&&◌, eqb, List, [], ◌∷◌, ◌++◌, sym, refl, ap, ◌∙◌, arith}
use Rattle.std.proofs.lemmas.Bool.{eqb-true, and_parts, not-true}
use Rattle.fields.specs.Pieces.{onto, lines_of, fields_of}
use Rattle.declarations.specs.Whole.{ended}
use Rattle.grammar.specs.Format.{commas, unlines}
use Rattle.fields.proofs.Parting.{fields_step}

-- the byte c does not occur
abbrev pub free : ℕ → List ℕ → Bool
free c [] = true
free c (b ∷ bs) = not (eqb b c) && free c bs

-- every line of an ended text has its line end
put_on : (b c : ℕ) (bs : List ℕ) (ls : List (List ℕ)) → unlines ls ≡ c ∷ bs → unlines (onto b ls) ≡ b ∷ c ∷ bs
put_on b c bs [] e = let z : ◌≡◌ {A = ℕ} 0 1 = cc in absurd (omega arith)
put_on b c bs (l ∷ ls) e = ap (λ r. b ∷ r) e

pub unlines_lines : (text : List ℕ) → ended text ≡ true → unlines (lines_of text) ≡ text
unlines_lines [] h = refl
unlines_lines (b ∷ []) h = rw h (ap (λ k. k ∷ []) (sym (eqb-true b 10 h)))
unlines_lines (b ∷ c ∷ bs) h = go (unlines_lines (c ∷ bs) h) (eqb b 10) refl
  where
    go : unlines (lines_of (c ∷ bs)) ≡ c ∷ bs → (t : Bool) → eqb b 10 ≡ t
        → unlines (cond t ([] ∷ lines_of (c ∷ bs)) (onto b (lines_of (c ∷ bs)))) ≡ b ∷ c ∷ bs
    go ih true e = ap (λ r. 10 ∷ r) ih ∙ ap (λ k. k ∷ c ∷ bs) (sym (eqb-true b 10 e))
    go ih false e = put_on b c bs (lines_of (c ∷ bs)) ih

-- a line that holds no line end is found again
pub lines_front : (l rest : List ℕ) → free 10 l ≡ true → lines_of (l ++ 10 ∷ rest) ≡ l ∷ lines_of rest
lines_front [] rest h = refl
lines_front (b ∷ bs) rest h =
    let parts = and_parts (not (eqb b 10)) (free 10 bs) h in
    let t : eqb b 10 ≡ false = not-true (eqb b 10) parts.0 in
    rw t (ap (onto b) (lines_front bs rest parts.1))

-- commas between the fields of a line give the line
commas_on : (b : ℕ) (f : List ℕ) (fs : List (List ℕ)) → commas (onto b (f ∷ fs)) ≡ b ∷ commas (f ∷ fs)
commas_on b f [] = refl
commas_on b f (g ∷ fs) = refl

commas_fields_step : (b : ℕ) (bs : List ℕ) (f : List ℕ) (fs : List (List ℕ)) (t : Bool) → eqb b 44 ≡ t → commas (f ∷ fs) ≡ bs
    → commas (cond t ([] ∷ f ∷ fs) (onto b (f ∷ fs))) ≡ b ∷ bs
commas_fields_step b bs f fs true e ih = ap (λ r. 44 ∷ r) ih ∙ ap (λ k. k ∷ bs) (sym (eqb-true b 44 e))
commas_fields_step b bs f fs false e ih = commas_on b f fs ∙ ap (λ r. b ∷ r) ih

pub commas_fields : (l : List ℕ) → commas (fields_of l) ≡ l
commas_fields [] = refl
commas_fields (b ∷ bs) =
    let s = fields_step bs in
    ap (λ fs. commas (cond (eqb b 44) ([] ∷ fs) (onto b fs))) s
    ∙ commas_fields_step b bs _ _ (eqb b 44) refl (sym (ap commas s) ∙ commas_fields bs)

-- fields that hold no comma are found again
pub field_alone : (f : List ℕ) → free 44 f ≡ true → fields_of f ≡ f ∷ []
field_alone [] h = refl
field_alone (b ∷ bs) h =
    let parts = and_parts (not (eqb b 44)) (free 44 bs) h in
    let t : eqb b 44 ≡ false = not-true (eqb b 44) parts.0 in
    rw t (ap (onto b) (field_alone bs parts.1))

pub field_front : (f rest : List ℕ) → free 44 f ≡ true → fields_of (f ++ 44 ∷ rest) ≡ f ∷ fields_of rest
field_front [] rest h = refl
field_front (b ∷ bs) rest h =
    let parts = and_parts (not (eqb b 44)) (free 44 bs) h in
    let t : eqb b 44 ≡ false = not-true (eqb b 44) parts.0 in
    rw t (ap (onto b) (field_front bs rest parts.1))

-- none of the pieces holds the byte c
abbrev pub AllFree : ℕ → List (List ℕ) → Type 0
AllFree c [] = Unit {0}
AllFree c (f ∷ fs) = (free c f ≡ true) × AllFree c fs

pub fields_commas : (f : List ℕ) (fs : List (List ℕ)) → AllFree 44 (f ∷ fs) → fields_of (commas (f ∷ fs)) ≡ f ∷ fs
fields_commas f [] h = field_alone f h.0
fields_commas f (g ∷ fs) h = field_front f (commas (g ∷ fs)) h.0 ∙ ap (λ r. f ∷ r) (fields_commas g fs h.1)

pub free_append : (c : ℕ) (xs ys : List ℕ) → free c xs ≡ true → free c ys ≡ true → free c (xs ++ ys) ≡ true
free_append c [] ys h k = k
free_append c (x ∷ xs) ys h k =
    let parts = and_parts (not (eqb x c)) (free c xs) h in
    rw parts.0 (free_append c xs ys parts.1 k)

-- a line whose fields hold no line end holds none
pub commas_free : (f : List ℕ) (fs : List (List ℕ)) → AllFree 10 (f ∷ fs) → free 10 (commas (f ∷ fs)) ≡ true
commas_free f [] h = h.0
commas_free f (g ∷ fs) h = free_append 10 f (44 ∷ commas (g ∷ fs)) h.0 (commas_free g fs h.1)

pub ended_unlines : (ls : List (List ℕ)) → ended (unlines ls) ≡ true
ended_unlines [] = refl
ended_unlines (l ∷ ls) = go l (unlines ls) (ended_unlines ls)
  where
    on : (rest : List ℕ) → ended rest ≡ true → ended (10 ∷ rest) ≡ true
    on [] h = refl
    on (b ∷ bs) h = h

    go : (l rest : List ℕ) → ended rest ≡ true → ended (l ++ 10 ∷ rest) ≡ true
    go [] rest h = on rest h
    go (b ∷ []) rest h = on rest h
    go (b ∷ c ∷ bs) rest h = go (c ∷ bs) rest h
