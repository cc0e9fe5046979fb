-- Which declarations fit a sheet: the levels and rows that the reading of declarations leaves, and when they are laid.
use Rattle.std.proofs.Common.{◌≡◌, ℕ, zero, suc, ◌<◌, ◌≤◌, Bool, true, false, cond, not, ◌&&◌, ◌||◌, eqb, ltb, List, [], ◌∷◌, ◌++◌, length, Some, None, Ok, Option, sym, refl, ap, ◌∙◌, ⊎_elim, arith}
use Rattle.std.proofs.lemmas.List.{get_or_append_left, get_or_push, get_or_past, length_push}
use Rattle.std.proofs.lemmas.Bool.{cases_lt, cases_eq, eqb-true, eqb-false, eq-eqb, ne_eqb, ltb-true, lt-ltb, le-ltb, false≢true}
use Rattle.semantics.specs.Modules.{pair_table, Row as PairRow}
use Rattle.semantics.specs.Sets.{some_below}
use Rattle.semantics.specs.Sheets.{Fault, fault, blank, lay, or_else, fault_if, fault_found, lowest, level, reads_too_high}
use Rattle.semantics.proofs.Sheets.{passes, test_fails}
use Rattle.declarations.specs.Declaring.{Located}
use Rattle.grammar.specs.Entering.{placing, lay_place, laid_with}
use Rattle.grammar.specs.Format.{RowsBelow}

-- the atoms of every row are among the first n
abbrev pub RowsIn : ℕ → List PairRow → Type 0
RowsIn n [] = Unit {0}
RowsIn n (r ∷ rows) = (r.one < n) × (r.other < n) × (r.to < n) × RowsIn n rows

-- what reading has seen to
pub record Fitted (names : List (List ℕ)) (levels : List ℕ) (rows : List PairRow) : Type 0 where
  pub paired : length names ≡ length levels
  pub few : length levels ≤ 256
  pub low : (a : ℕ) → level levels a ≤ 15
  pub inside : RowsIn (length levels) rows

-- PLACING

-- nothing is placed where there is no fault, and only there
pub placed_ok : (o : Option Fault) (place : Fault → Located) → placing o place ≡ Ok tt → o ≡ None
placed_ok None place e = refl
placed_ok (Some f) place e = let z : ◌≡◌ {A = ℕ} 0 1 = cc in absurd (omega arith)

-- LOOKING THROUGH

pub all_fail : (test : ℕ → Bool) (n : ℕ) → ((k : ℕ) → k < n → test k ≡ false) → lowest test n ≡ None
all_fail test zero h = refl
all_fail test (suc n) h =
    let rest = all_fail test n (λ k l. h k (omega arith)) in
    let here = h n (omega arith) in
    ap (λ o. or_else o (cond (test n) (Some n) None)) rest ∙ ap (λ b. cond b (Some n) None) here

nothing : (number : ℕ) (o : Option ℕ) → fault_found number o ≡ None → o ≡ None
nothing number None e = refl
nothing number (Some k) e = let z : ◌≡◌ {A = ℕ} 0 1 = cc in absurd (omega arith)

or_none : {A : Type 0} (x y : Option A) → or_else x y ≡ None → (x ≡ None) × (y ≡ None)
or_none None y e = (refl, e)
or_none (Some x) y e = let z : ◌≡◌ {A = ℕ} 0 1 = cc in absurd (omega arith)

failed : (b : Bool) (n : ℕ) → cond b (Some n) None ≡ None → b ≡ false
failed true n e = let z : ◌≡◌ {A = ℕ} 0 1 = cc in absurd (omega arith)
failed false n e = refl

pub none_passes : (test : ℕ → Bool) (n : ℕ) → lowest test n ≡ None → (k : ℕ) → k < n → test k ≡ false
none_passes test zero e k l = absurd (omega arith)
none_passes test (suc n) e k l =
    let w = or_none (lowest test n) (cond (test n) (Some n) None) e in
    ⊎_elim (λ here. ap test here ∙ failed (test n) n w.1) (λ other. none_passes test n w.0 k (omega arith)) (cases_eq k n)

or_false : (b c : Bool) → (b || c) ≡ false → (b ≡ false) × (c ≡ false)
or_false true c e = (e, absurd (false≢true (sym e)))
or_false false c e = (refl, e)

none_below : (test : ℕ → Bool) (n : ℕ) → some_below n test ≡ false → (k : ℕ) → k < n → test k ≡ false
none_below test zero e k l = absurd (omega arith)
none_below test (suc n) e k l =
    let w = or_false (test n) (some_below n test) e in
    ⊎_elim (λ here. ap test here ∙ w.0) (λ other. none_below test n w.1 k (omega arith)) (cases_eq k n)

all_below : (test : ℕ → Bool) (n : ℕ) → ((k : ℕ) → k < n → test k ≡ false) → some_below n test ≡ false
all_below test zero h = refl
all_below test (suc n) h = ap (λ b. b || some_below n test) (h n (omega arith)) ∙ all_below test n (λ k l. h k (omega arith))

-- ROWS

abbrev reads_row : PairRow → ℕ → Bool
reads_row r a = eqb r.one a || eqb r.other a

-- an output reads too high, by its row
abbrev row_high : List ℕ → PairRow → ℕ → Bool
row_high levels r a = reads_row r a && not (ltb (level levels a) (level levels r.to))

same_test : (levels : List ℕ) (r : PairRow) (a b : ℕ) → eqb b a ≡ true → level levels b < level levels r.to → (c : Bool) → (c && not (ltb (level levels a) (level levels r.to))) ≡ false
same_test levels r a b e l c =
    let same = eqb-true b a e in
    let here : level levels a < level levels r.to = rw same at l in
    let t : ltb (level levels a) (level levels r.to) ≡ true = lt-ltb (level levels a) (level levels r.to) here in
    ap (λ x. c && not x) t ∙ and_no c
  where
    and_no : (c : Bool) → (c && false) ≡ false
    and_no true = refl
    and_no false = refl

row_fits : (levels : List ℕ) (r : PairRow) (n : ℕ) → level levels r.one < level levels r.to → level levels r.other < level levels r.to → some_below n (row_high levels r) ≡ false
row_fits levels r n p q = all_below (row_high levels r) n (λ a l. first a (eqb r.one a) refl)
  where
    second : (a : ℕ) (t : Bool) → eqb r.other a ≡ t → (t && not (ltb (level levels a) (level levels r.to))) ≡ false
    second a true e = same_test levels r a r.other e q true
    second a false e = refl

    first : (a : ℕ) (t : Bool) → eqb r.one a ≡ t → ((t || eqb r.other a) && not (ltb (level levels a) (level levels r.to))) ≡ false
    first a true e = same_test levels r a r.one e p true
    first a false e = second a (eqb r.other a) refl

not_false_is : (b : Bool) → not b ≡ false → b ≡ true
not_false_is true e = refl
not_false_is false e = absurd (false≢true (sym e))

or_right_is : (b : Bool) → (b || true) ≡ true
or_right_is true = refl
or_right_is false = refl

fits_row : (levels : List ℕ) (r : PairRow) (n : ℕ) → r.one < n → r.other < n → some_below n (row_high levels r) ≡ false
    → (level levels r.one < level levels r.to) × (level levels r.other < level levels r.to)
fits_row levels r n o p e =
    let none = none_below (row_high levels r) n e in
    let at : (a : ℕ) → reads_row r a ≡ true → a < n → level levels a < level levels r.to =
    λ a t l. ltb-true (level levels a) (level levels r.to) (not_false_is _ (sym (ap (λ b. b && not (ltb (level levels a) (level levels r.to))) t) ∙ none a l)) in
    let one : reads_row r r.one ≡ true = ap (λ b. b || eqb r.other r.one) (eq-eqb r.one r.one refl) in
    let other : reads_row r r.other ≡ true = ap (λ b. eqb r.one r.other || b) (eq-eqb r.other r.other refl) ∙ or_right_is (eqb r.one r.other) in
    (at r.one one o, at r.other other p)

rows_fit : (levels : List ℕ) (rows : List PairRow) → RowsBelow levels rows → (k : ℕ) → k < length rows → reads_too_high levels (pair_table rows) k ≡ false
rows_fit levels [] h k l = absurd (omega arith)
rows_fit levels (r ∷ rows) h zero l = row_fits levels r (length levels) h.0 h.1
rows_fit levels (r ∷ rows) h (suc k) l = rows_fit levels rows h.2 k (omega arith)

fit_rows : (levels : List ℕ) (rows : List PairRow) → RowsIn (length levels) rows → ((k : ℕ) → k < length rows → reads_too_high levels (pair_table rows) k ≡ false)
    → RowsBelow levels rows
fit_rows levels [] i h = tt
fit_rows levels (r ∷ rows) i h =
    let w = fits_row levels r (length levels) i.0 i.1 (h 0 (omega arith)) in
    (w.0, w.1, fit_rows levels rows i.3 (λ k l. h (suc k) (omega arith)))

outputs_in : (n : ℕ) (rows : List PairRow) → RowsIn n rows → (k : ℕ) → k < length rows → not (ltb ((pair_table rows).atom k) n) ≡ false
outputs_in n [] i k l = absurd (omega arith)
outputs_in n (r ∷ rows) i zero l = ap not (lt-ltb r.to n i.2)
outputs_in n (r ∷ rows) i (suc k) l = outputs_in n rows i.3 k (omega arith)

-- LAYING

module _ (names : List (List ℕ)) (levels : List ℕ) (rows : List PairRow) (outs : List ℕ) (fitted : Fitted names levels rows) where
  pub fit_laid : 0 < length levels → RowsBelow levels rows → laid_with rows levels outs ≡ Ok tt
  fit_laid some below =
      let bank = pair_table rows in
      let a : eqb (length levels) 0 ≡ false = ne_eqb (length levels) 0 (λ e. omega arith) in
      let few = fitted.few in
      let b : ltb 256 (length levels) ≡ false = le-ltb 256 (length levels) few in
      let two : (eqb (length levels) 0 || ltb 256 (length levels)) ≡ false = ap (λ x. x || ltb 256 (length levels)) a ∙ b in
      let three : lowest (λ a. ltb 15 (level levels a)) (length levels) ≡ None = all_fail (λ a. ltb 15 (level levels a)) (length levels) (λ k l. le-ltb 15 (level levels k) (fitted.low k)) in
      let four : lowest (λ k. not (ltb (bank.atom k) (length levels))) (length rows) ≡ None = all_fail (λ k. not (ltb (bank.atom k) (length levels))) (length rows) (outputs_in (length levels) rows fitted.inside) in
      let five : lowest (reads_too_high levels bank) (length rows) ≡ None = all_fail (reads_too_high levels bank) (length rows) (rows_fit levels rows below) in
      ap (λ o. placing o (lay_place (length levels) outs))
      (ap (λ t. or_else (fault_if 2 t) (or_else (fault_found 3 (lowest (λ a. ltb 15 (level levels a)) (length levels))) (or_else (fault_found 4 (lowest (λ k. not (ltb (bank.atom k) (length levels))) (length rows))) (or_else (fault_found 5 (lowest (reads_too_high levels bank) (length rows))) None)))) two
      ∙ ap (λ t. or_else (fault_found 3 t) (or_else (fault_found 4 (lowest (λ k. not (ltb (bank.atom k) (length levels))) (length rows))) (or_else (fault_found 5 (lowest (reads_too_high levels bank) (length rows))) None))) three
      ∙ ap (λ t. or_else (fault_found 4 t) (or_else (fault_found 5 (lowest (reads_too_high levels bank) (length rows))) None)) four
      ∙ ap (λ t. or_else (fault_found 5 t) None) five)

  pub laid_fits : laid_with rows levels outs ≡ Ok tt → (0 < length levels) × RowsBelow levels rows
  laid_fits e =
      let bank = pair_table rows in
      let none = placed_ok (fault (blank bank) (lay levels)) (lay_place (length levels) outs) e in
      let w = passes (blank bank) (lay levels) none in
      let two = or_false (eqb (length levels) 0) (ltb 256 (length levels)) (test_fails 2 0 (eqb (length levels) 0 || ltb 256 (length levels)) w.0) in
      let some : length levels ≡ 0 → ⊥ = eqb-false (length levels) 0 two.0 in
      let five = none_passes (reads_too_high levels bank) (length rows) (nothing 5 (lowest (reads_too_high levels bank) (length rows)) w.1.1.1.0) in
      (⊎_elim (λ l. l) (λ l. absurd (some (omega arith))) (cases_lt 0 (length levels)), fit_rows levels rows fitted.inside five)

-- WHAT READING SEES TO

rows_more : (n m : ℕ) (rows : List PairRow) → n ≤ m → RowsIn n rows → RowsIn m rows
rows_more n m [] l i = tt
rows_more n m (r ∷ rows) l i =
    let a = i.0 in
    let b = i.1 in
    let c = i.2 in
    (omega arith, omega arith, omega arith, rows_more n m rows l i.3)

rows_push : (n : ℕ) (rows : List PairRow) (r : PairRow) → RowsIn n rows → r.one < n → r.other < n → r.to < n → RowsIn n (rows ++ r ∷ [])
rows_push n [] r i a b c = (a, b, c, tt)
rows_push n (x ∷ rows) r i a b c = (i.0, i.1, i.2, rows_push n rows r i.3 a b c)

level_push : (levels : List ℕ) (k : ℕ) → k ≤ 15 → ((a : ℕ) → level levels a ≤ 15) → (a : ℕ) → level (levels ++ k ∷ []) a ≤ 15
level_push levels k l low a =
    ⊎_elim
    (λ below. let e = get_or_append_left levels (k ∷ []) 0 a below in let h = low a in omega arith)
    (λ above.
    ⊎_elim
    (λ at. let e = get_or_push levels k 0 a (sym at) in omega arith)
    (λ past. let n = length_push levels k in let e = get_or_past (levels ++ k ∷ []) a 0 (omega arith) in omega arith)
    (cases_eq a (length levels)))
    (cases_lt a (length levels))

pub fitted_none : Fitted [] [] []
fitted_none = record { paired = refl; few = omega arith; low = λ a. omega arith; inside = tt }

module _ (names : List (List ℕ)) (levels : List ℕ) (rows : List PairRow) (fitted : Fitted names levels rows) where
  pub fitted_atom : (name : List ℕ) (k : ℕ) → k ≤ 15 → length names < 256 → Fitted (names ++ name ∷ []) (levels ++ k ∷ []) rows
  fitted_atom name k l room =
      let n = length_push names name in
      let m = length_push levels k in
      let same = fitted.paired in
      record { paired = omega arith; few = omega arith; low = level_push levels k l fitted.low; inside = rows_more (length levels) (length (levels ++ k ∷ [])) rows (omega arith) fitted.inside }

  pub fitted_row : (r : PairRow) → r.one < length names → r.other < length names → r.to < length names → Fitted names levels (rows ++ r ∷ [])
  fitted_row r a b c =
      let same = fitted.paired in
      record { paired = same; few = fitted.few; low = fitted.low; inside = rows_push (length levels) rows r fitted.inside (omega arith) (omega arith) (omega arith) }
