-- Entering a line or a bar.
use Rattle.std.proofs.Common.{◌≡◌, ℕ, ◌<◌, Bool, true, false, not, eqb, ltb, leb, ◌⊎◌, List, [], ◌∷◌, ◌++◌, map, length, get_or, take, Some, None, Ok, Err, Result, sym, refl, ap, ◌∙◌, subst, inl, inr, ⊎_elim, arith}
use Rattle.std.proofs.lemmas.List.{take_all, take-map, get_or-take, length-map, length-take-le}
use Rattle.std.proofs.lemmas.Bool.{cases_lt, lt-ltb}
use Rattle.faults.specs.Faults.{number_of}
use Rattle.faults.specs.declared.Fault.{Fault}
use Rattle.faults.specs.declared.Fault.TheVariants.{Memory}
use Rattle.semantics.specs.declared.Head.{Head}
use Rattle.semantics.specs.declared.Literal.{Literal}
use Rattle.semantics.specs.Rules.{Rule, head_below}
use Rattle.semantics.specs.Modules.{pair_table, Row as PairRow}
use Rattle.semantics.specs.Sheets.{State, enter, done, Fault as Flaw, fault, moved, or_else, fault_if, laid, line, literal_fault, atoms}
use Rattle.semantics.specs.Sheets as model
use Rattle.sheet.specs.Contents.{Contents, state_of, Sound}
use Rattle.sheet.specs.Calls.{Called, Entered}
use Rattle.sheet.specs.Faults.{flaw}
use Rattle.records.specs.declared.body.Placed.{Placed}
use Rattle.fields.specs.declared.field.Letter.{Letter}
use Rattle.records.specs.declared.refusal.Refusal.{Refusal}
use Rattle.fields.specs.Pieces.{Field}
use Rattle.records.specs.Reading.{then, LineRecord, line_by}
use Rattle.records.specs.Shown.{nine_of}
use Rattle.declarations.specs.Declaring.{in_line, Declared}
use Rattle.grammar.specs.Entering.{placing, literals_of, byte_at, enter_byte, enter_place, entered, entering}
use Rattle.text.proofs.Laying.{accepted_faultless, accepted_moves, refused_call}
use Rattle.text.proofs.Numbers.{number_zero}

-- NINE LITERALS ARE ENOUGH TO KNOW THE FAULT

abbrev nine : LineRecord → LineRecord
nine l = record { head = l.head; body = take 9 l.body }

-- with one literal too many, the first fault doesn't depend on the literals
long_fault : (st : State) (h : Head) (ls : List Literal) → 8 < length ls
    → fault st (enter h ls) ≡ or_else (fault_if 1 (not (laid st))) (or_else (fault_if 6 (leb 512 (length st.rules))) (or_else (fault_if 7 (not (head_below (atoms st) h))) (fault_if 8 true)))
long_fault st h ls l =
    let t : ltb 8 (length ls) ≡ true = lt-ltb 8 (length ls) l in
    ap (λ b. or_else (fault_if 1 (not (laid st))) (or_else (fault_if 6 (leb 512 (length st.rules))) (or_else (fault_if 7 (not (head_below (atoms st) h))) (or_else (fault_if 8 b) (or_else (literal_fault st.levels h 0 ls) None))))) t

byte_of_nine : (body : List Placed) → byte_at (take 9 body) 8 ≡ byte_at body 8
byte_of_nine body =
    ap (λ bs. get_or bs 8 0) (sym (take-map (λ l. l.byte) 9 body)) ∙ get_or-take 9 (map (λ l. l.byte) body) 8 0 (omega arith)

-- the same refusal for two bodies whose ninth literals begin at one byte
long_refusal : (n : ℕ) (xs ys : List Placed) (r s : Rule) (a b c : Bool) → byte_at xs 8 ≡ byte_at ys 8
    → then (placing (or_else (fault_if 1 a) (or_else (fault_if 6 b) (or_else (fault_if 7 c) (fault_if 8 true)))) (enter_place n xs)) (λ _. Ok r)
    ≡ then (placing (or_else (fault_if 1 a) (or_else (fault_if 6 b) (or_else (fault_if 7 c) (fault_if 8 true)))) (enter_place n ys)) (λ _. Ok s)
long_refusal n xs ys r s true b c e = refl
long_refusal n xs ys r s false true c e = refl
long_refusal n xs ys r s false false true e = refl
long_refusal n xs ys r s false false false e = ap (λ k. Err (record { number = 8; line = n; byte = k })) e

pub entered_nine : (d : Declared) (rules : List Rule) (n : ℕ) (l : LineRecord) → entered d rules n (nine l) ≡ entered d rules n l
entered_nine d rules n l =
    ⊎_elim
    (λ long.
    let st = model.anew (pair_table d.rows) d.levels rules in
    let full = literals_of l.body in
    let cut = literals_of (take 9 l.body) in
    let a : length full ≡ length l.body = length-map l.body (λ p. p.literal) in
    let b : length cut ≡ length (take 9 l.body) = length-map (take 9 l.body) (λ p. p.literal) in
    let c : length (take 9 l.body) ≡ 9 = length-take-le 9 l.body (omega arith) in
    ap (λ o. then (placing o (enter_place n (take 9 l.body))) (λ _. Ok (line l.head cut))) (long_fault st l.head cut (omega arith))
    ∙ long_refusal n (take 9 l.body) l.body (line l.head cut) (line l.head full) (not (laid st)) (leb 512 (length st.rules)) (not (head_below (atoms st) l.head)) (byte_of_nine l.body)
    ∙ sym (ap (λ o. then (placing o (enter_place n l.body)) (λ _. Ok (line l.head full))) (long_fault st l.head full (omega arith))))
    (λ short. ap (λ body. entered d rules n (record { head = l.head; body = body })) (take_all 9 l.body (omega arith)))
    (cases_lt 9 (length l.body))

-- WHAT A LINE SAYS, BY ITS FIRST NINE LITERALS

pub entering_said : (d : Declared) (rules : List Rule) (n : ℕ) (letter : Letter) (fs : List Field) (names : List (List ℕ)) (l : LineRecord) → names ≡ d.names
    → Ok l ≡ nine_of (line_by letter names fs) → entering d rules n letter fs ≡ entered d rules n l
entering_said d rules n letter fs names l e h = ap (λ ns. then (in_line n (line_by letter ns fs)) (entered d rules n)) (sym e) ∙ go (line_by letter names fs) h
  where
    go : (x : Result LineRecord Refusal) → Ok l ≡ nine_of x → then (in_line n x) (entered d rules n) ≡ entered d rules n l
    go (Ok full) h = let same : nine full ≡ l = cc in sym (entered_nine d rules n full) ∙ ap (entered d rules n) same
    go (Err refusal) h = let z : ◌≡◌ {A = ℕ} 0 1 = cc in absurd (omega arith)

pub entering_refused : (d : Declared) (rules : List Rule) (n : ℕ) (letter : Letter) (fs : List Field) (names : List (List ℕ)) (e : Refusal) → names ≡ d.names
    → Err e ≡ nine_of (line_by letter names fs) → entering d rules n letter fs ≡ Err (record { number = number_of e.fault; line = n; byte = e.byte })
entering_refused d rules n letter fs names e same h = ap (λ ns. then (in_line n (line_by letter ns fs)) (entered d rules n)) (sym same) ∙ go (line_by letter names fs) h
  where
    go : (x : Result LineRecord Refusal) → Err e ≡ nine_of x → then (in_line n x) (entered d rules n) ≡ Err (record { number = number_of e.fault; line = n; byte = e.byte })
    go (Ok full) h = let z : ◌≡◌ {A = ℕ} 0 1 = cc in absurd (omega arith)
    go (Err refusal) h = let same : refusal ≡ e = cc in ap (λ r. Err (record { number = number_of r.fault; line = n; byte = r.byte })) same

-- THE CALL

pub enters_ok : (d : Declared) (rules : List Rule) (n : ℕ) (s t : Contents) (rows : List PairRow) (l : LineRecord) (body : List Literal)
    → rows ≡ d.rows → body ≡ literals_of l.body
    → state_of (pair_table d.rows) s ≡ model.anew (pair_table d.rows) d.levels rules → Sound (pair_table d.rows) s
    → Called (pair_table rows) s t (enter l.head body) done
    → (entered d rules n l ≡ Ok (line l.head (literals_of l.body)))
    × (state_of (pair_table d.rows) t ≡ model.anew (pair_table d.rows) d.levels (rules ++ line l.head (literals_of l.body) ∷ []))
    × Sound (pair_table d.rows) t
enters_ok d rules n s t rows l body e k state sound called =
    let bank = pair_table d.rows in
    let c = enter l.head (literals_of l.body) in
    let C : List PairRow → Type 0 = λ rs. Called (pair_table rs) s t (enter l.head body) done in
    let D : List Literal → Type 0 = λ ls. Called bank s t (enter l.head ls) done in
    let h : Called bank s t c done = subst D k (subst C e called) in
    let none : fault (model.anew bank d.levels rules) c ≡ None = ap (λ st. fault st c) (sym state) ∙ accepted_faultless bank s t c h in (
      ap (λ o. then (placing o (enter_place n l.body)) (λ _. Ok (line l.head (literals_of l.body)))) none,
      accepted_moves bank s t c h sound ∙ ap (λ st. moved st c) state,
      h.sound sound,
    )

pub enters_not : (d : Declared) (rules : List Rule) (n : ℕ) (s t : Contents) (rows : List PairRow) (l : LineRecord) (body : List Literal) (f : Fault) (byte : ℕ)
    → rows ≡ d.rows → body ≡ literals_of l.body
    → state_of (pair_table d.rows) s ≡ model.anew (pair_table d.rows) d.levels rules
    → Entered (pair_table rows) s t l.head body (Err f) → byte ≡ enter_byte l.body (flaw f)
    → (entered d rules n l ≡ Err (record { number = number_of f; line = n; byte = byte })) ⊎ (f ≡ Memory)
enters_not d rules n s t rows l body f byte e k state called place =
    let bank = pair_table d.rows in
    let c = enter l.head (literals_of l.body) in
    let C : List PairRow → Type 0 = λ rs. Entered (pair_table rs) s t l.head body (Err f) in
    let D : List Literal → Type 0 = λ ls. Entered bank s t l.head ls (Err f) in
    let h : Entered bank s t l.head (literals_of l.body) (Err f) = subst D k (subst C e called) in
    elim (refused_call bank s t c f (eqb (number_of f) 0) refl h) [
      | Ok found ↦
          let there : fault (model.anew bank d.levels rules) c ≡ Some (flaw f) = ap (λ st. fault st c) (sym state) ∙ found in
          inl
          (ap (λ o. then (placing o (enter_place n l.body)) (λ _. Ok (line l.head (literals_of l.body)))) there
          ∙ ap (λ b. Err (record { number = number_of f; line = n; byte = b })) (sym place))
      | Err zero ↦ inr (number_zero f zero)
    ]
