-- Names, levels, letters and literals: what is written is read back, and what is read was written so.
use Rattle.std.proofs.Common.{◌≡◌, ℕ, ◌+◌, ◌-◌, ◌<◌, ◌≤◌, Bool, true, false, cond, not, ◌&&◌, ◌||◌, eqb, ltb, leb, List, [], ◌∷◌, length, is_some, Some, None, Ok, Err, Option, Result, refl, ap, ◌∙◌, ⊎_elim, arith}
use Rattle.std.specs.Option.{ok_or}
use Rattle.std.proofs.lemmas.Bool.{eqb-true, ltb-false, leb-true, ne_eqb, le-leb, lt-ltb, le-ltb, and_parts, and_from, or_cases, cases_lt, false≢true}
use Rattle.semantics.specs.declared.Side.{Side}
use Rattle.semantics.specs.declared.Side.TheVariants.{Present, Absent}
use Rattle.fields.specs.declared.field.Letter.{Letter}
use Rattle.fields.specs.declared.field.Letter.TheVariants.{Atom, Row, Rule, Bar}
use Rattle.fields.specs.Words.{letter_of, is_small, is_inner, all_inner, is_name, digit_up_to, level_of, side_of, name_of}
use Rattle.records.specs.Reading.{then}
use Rattle.grammar.specs.Format.{digits, signed, letter_text}
use Rattle.grammar.proofs.Splitting.{free}

-- INVERSION

pub err_is_not_ok : {X E : Type 0} {e : E} {x : X} → Err e ≡ Ok x → ⊥
err_is_not_ok {X} {E} {e} {x} h = let z : ◌≡◌ {A = ℕ} 0 1 = cc in omega arith

pub then_ok : {X Y E : Type 0} (r : Result X E) (k : X → Result Y E) (y : Y) → then r k ≡ Ok y → (x : X) × (r ≡ Ok x) × (k x ≡ Ok y)
then_ok (Ok x) k y h = (x, refl, h)
then_ok (Err e) k y h = absurd (err_is_not_ok h)

pub cond_ok : {X E : Type 0} (t : Bool) (r : Result X E) (e : E) (x : X) → cond t r (Err e) ≡ Ok x → (t ≡ true) × (r ≡ Ok x)
cond_ok true r e x h = (refl, h)
cond_ok false r e x h = absurd (err_is_not_ok h)

pub unless_ok : {X E : Type 0} (t : Bool) (r : Result X E) (e : E) (x : X) → cond t (Err e) r ≡ Ok x → (t ≡ false) × (r ≡ Ok x)
unless_ok true r e x h = absurd (err_is_not_ok h)
unless_ok false r e x h = (refl, h)

pub ok_or_ok : {X E : Type 0} (o : Option X) (e : E) (x : X) → ok_or o e ≡ Ok x → o ≡ Some x
ok_or_ok None e x h = absurd (err_is_not_ok h)
ok_or_ok (Some y) e x h = let same : y ≡ x = cc in ap Some same

pub some_of : {X : Type 0} (o : Option X) → is_some o ≡ true → (x : X) × (o ≡ Some x)
some_of None h = absurd (false≢true h)
some_of (Some x) h = (x, refl)

cond_some : (t : Bool) (o : Option ℕ) (k : ℕ) → cond t o None ≡ Some k → (t ≡ true) × (o ≡ Some k)
cond_some true o k h = (refl, h)
cond_some false o k h = let z : ◌≡◌ {A = ℕ} 0 1 = cc in absurd (omega arith)

some_same : (x k : ℕ) → Some x ≡ Some k → x ≡ k
some_same x k h = cc

-- LETTERS

pub letter_read : (l : Letter) → letter_of (letter_text l) ≡ Some l
letter_read Atom = refl
letter_read Row = refl
letter_read Rule = refl
letter_read Bar = refl

pub letter_written : (f : List ℕ) (l : Letter) → letter_of f ≡ Some l → f ≡ letter_text l
letter_written [] l h = let z : ◌≡◌ {A = ℕ} 0 1 = cc in absurd (omega arith)
letter_written (b ∷ []) l h = first (eqb b 97) refl h
  where
    at : (c : ℕ) (m : Letter) → eqb b c ≡ true → c ∷ [] ≡ letter_text m → Some m ≡ Some l → b ∷ [] ≡ letter_text l
    at c m e t s = let same : m ≡ l = cc in ap (λ k. k ∷ []) (eqb-true b c e) ∙ t ∙ ap letter_text same

    fourth : (t : Bool) → eqb b 98 ≡ t → cond t (Some Bar) None ≡ Some l → b ∷ [] ≡ letter_text l
    fourth true e h = at 98 Bar e refl h
    fourth false e h = let z : ◌≡◌ {A = ℕ} 0 1 = cc in absurd (omega arith)

    third : (t : Bool) → eqb b 114 ≡ t → cond t (Some Rule) (cond (eqb b 98) (Some Bar) None) ≡ Some l → b ∷ [] ≡ letter_text l
    third true e h = at 114 Rule e refl h
    third false e h = fourth (eqb b 98) refl h

    second : (t : Bool) → eqb b 112 ≡ t → cond t (Some Row) (cond (eqb b 114) (Some Rule) (cond (eqb b 98) (Some Bar) None)) ≡ Some l → b ∷ [] ≡ letter_text l
    second true e h = at 112 Row e refl h
    second false e h = third (eqb b 114) refl h

    first : (t : Bool) → eqb b 97 ≡ t → cond t (Some Atom) (cond (eqb b 112) (Some Row) (cond (eqb b 114) (Some Rule) (cond (eqb b 98) (Some Bar) None))) ≡ Some l → b ∷ [] ≡ letter_text l
    first true e h = at 97 Atom e refl h
    first false e h = second (eqb b 112) refl h
letter_written (b ∷ c ∷ bs) l h = let z : ◌≡◌ {A = ℕ} 0 1 = cc in absurd (omega arith)

-- LEVELS

pub level_read : (k : ℕ) → k ≤ 15 → level_of (digits k) ≡ Some k
level_read k h =
    ⊎_elim
    (λ l.
    let t : ltb k 10 ≡ true = lt-ltb k 10 l in
    let u : (leb 48 (48 + k) && leb (48 + k) 57) ≡ true = and_from _ _ (le-leb 48 (48 + k) (omega arith)) (le-leb (48 + k) 57 (omega arith)) in
    let v : 48 + k - 48 + 0 ≡ k = omega arith in
    rw (t, u) (ap Some v))
    (λ l.
    let t : ltb k 10 ≡ false = le-ltb k 10 l in
    let u : (leb 48 (38 + k) && leb (38 + k) 53) ≡ true = and_from _ _ (le-leb 48 (38 + k) (omega arith)) (le-leb (38 + k) 53 (omega arith)) in
    let v : 38 + k - 48 + 10 ≡ k = omega arith in
    rw (t, u) (ap Some v))
    (cases_lt k 10)

digit_read : (top tens b k : ℕ) → digit_up_to top tens b ≡ Some k → (48 ≤ b) × (b ≤ top) × (b - 48 + tens ≡ k)
digit_read top tens b k h =
    let p = cond_some (leb 48 b && leb b top) (Some (b - 48 + tens)) k h in
    let q = and_parts (leb 48 b) (leb b top) p.0 in
    (leb-true 48 b q.0, leb-true b top q.1, some_same (b - 48 + tens) k p.1)

pub level_written : (bs : List ℕ) (k : ℕ) → level_of bs ≡ Some k → (k ≤ 15) × (bs ≡ digits k)
level_written [] k h = let z : ◌≡◌ {A = ℕ} 0 1 = cc in absurd (omega arith)
level_written (b ∷ []) k h =
    let p = digit_read 57 0 b k h in
    let l : k < 10 = omega (arith, p.0, p.1, p.2) in
    let t : ltb k 10 ≡ true = lt-ltb k 10 l in
    let e : b ≡ 48 + k = omega (arith, p.0, p.1, p.2) in
    (omega arith, rw t (ap (λ x. x ∷ []) e))
level_written (b ∷ c ∷ []) k h =
    let q = cond_some (eqb b 49) (digit_up_to 53 10 c) k h in
    let p = digit_read 53 10 c k q.1 in
    let l : 10 ≤ k = omega (arith, p.0, p.1, p.2) in
    let m : k ≤ 15 = omega (arith, p.0, p.1, p.2) in
    let t : ltb k 10 ≡ false = le-ltb k 10 l in
    let e : c ≡ 38 + k = omega (arith, p.0, p.1, p.2) in
    (m, rw t (ap (λ x. x ∷ c ∷ []) (eqb-true b 49 q.0) ∙ ap (λ x. 49 ∷ x ∷ []) e))
level_written (b ∷ c ∷ d ∷ bs) k h = let z : ◌≡◌ {A = ℕ} 0 1 = cc in absurd (omega arith)

-- LITERALS

pub literal_written : (bs : List ℕ) → is_name (name_of bs) ≡ true → bs ≡ signed (side_of bs) (name_of bs)
literal_written [] h = refl
literal_written (b ∷ bs) h = go (eqb b 45) refl
  where
    go : (t : Bool) → eqb b 45 ≡ t → b ∷ bs ≡ signed (cond t Absent Present) (cond t bs (b ∷ bs))
    go true e = ap (λ k. k ∷ bs) (eqb-true b 45 e)
    go false e = refl

small_from : (b : ℕ) → is_small b ≡ true → 97 ≤ b
small_from b h = leb-true 97 b (and_parts (leb 97 b) (leb b 122) h).0

pub name_read : (side : Side) (name : List ℕ) → is_name name ≡ true → name_of (signed side name) ≡ name
name_read Present [] h = refl
name_read Present (b ∷ bs) h =
    let s = small_from b (and_parts (is_small b) (ltb (length bs) 16 && all_inner bs) h).0 in
    let t : eqb b 45 ≡ false = ne_eqb b 45 (λ e. omega arith) in
    rw t
name_read Absent name h = refl

pub side_read : (side : Side) (name : List ℕ) → is_name name ≡ true → side_of (signed side name) ≡ side
side_read Present [] h = refl
side_read Present (b ∷ bs) h =
    let s = small_from b (and_parts (is_small b) (ltb (length bs) 16 && all_inner bs) h).0 in
    let t : eqb b 45 ≡ false = ne_eqb b 45 (λ e. omega arith) in
    rw t
side_read Absent name h = refl

-- A NAME, A LEVEL AND A LITERAL HOLD NO SEPARATOR

inner_from : (b : ℕ) → is_inner b ≡ true → 48 ≤ b
inner_from b h =
    ⊎_elim
    (λ e. let s = small_from b e in omega arith)
    (λ e.
    ⊎_elim
    (λ e. let s = leb-true 65 b (and_parts (leb 65 b) (leb b 90) e).0 in omega arith)
    (λ e.
    ⊎_elim
    (λ e. leb-true 48 b (and_parts (leb 48 b) (leb b 57) e).0)
    (λ e. let s = eqb-true b 95 e in omega arith)
    (or_cases (leb 48 b && leb b 57) (eqb b 95) e))
    (or_cases (leb 65 b && leb b 90) ((leb 48 b && leb b 57) || eqb b 95) e))
    (or_cases (is_small b) ((leb 65 b && leb b 90) || ((leb 48 b && leb b 57) || eqb b 95)) h)

apart : (b c : ℕ) → c < b → not (eqb b c) ≡ true
apart b c h = let t : eqb b c ≡ false = ne_eqb b c (λ e. omega arith) in rw t

inner_free : (c : ℕ) (bs : List ℕ) → c < 48 → all_inner bs ≡ true → free c bs ≡ true
inner_free c [] l h = refl
inner_free c (b ∷ bs) l h =
    let p = and_parts (is_inner b) (all_inner bs) h in
    let s = inner_from b p.0 in
    and_from (not (eqb b c)) (free c bs) (apart b c (omega arith)) (inner_free c bs l p.1)

pub name_free : (c : ℕ) (name : List ℕ) → c < 48 → is_name name ≡ true → free c name ≡ true
name_free c [] l h = refl
name_free c (b ∷ bs) l h =
    let p = and_parts (is_small b) (ltb (length bs) 16 && all_inner bs) h in
    let q = and_parts (ltb (length bs) 16) (all_inner bs) p.1 in
    let s = small_from b p.0 in
    and_from (not (eqb b c)) (free c bs) (apart b c (omega arith)) (inner_free c bs l q.1)

pub literal_free : (c : ℕ) (side : Side) (name : List ℕ) → c < 45 → is_name name ≡ true → free c (signed side name) ≡ true
literal_free c Present name l h = name_free c name (omega arith) h
literal_free c Absent name l h = and_from (not (eqb 45 c)) (free c name) (apart 45 c l) (name_free c name (omega arith) h)

pub digits_free : (c k : ℕ) → c < 48 → k ≤ 15 → free c (digits k) ≡ true
digits_free c k l h = go (ltb k 10) refl
  where
    go : (t : Bool) → ltb k 10 ≡ t → free c (cond t ((48 + k) ∷ []) (49 ∷ (38 + k) ∷ [])) ≡ true
    go true e = and_from (not (eqb (48 + k) c)) true (apart (48 + k) c (omega arith)) refl
    go false e =
        let m = ltb-false k 10 e in
        and_from (not (eqb 49 c)) _ (apart 49 c (omega arith)) (and_from (not (eqb (38 + k) c)) true (apart (38 + k) c (omega arith)) refl)
