-- What is accepted is the rendering of valid records.
use Rattle.std.proofs.Common.{◌≡◌, ℕ, ◌+◌, ◌<◌, ◌≤◌, true, false, cond, ltb, leb, List, [], ◌∷◌, ◌++◌, map, length, is_some, Some, None, Ok, Err, Option, Result, sym, refl, ap, ◌∙◌, subst, arith}
use Rattle.std.proofs.lemmas.List.{length-map, map-append}
use Rattle.std.proofs.lemmas.Bool.{ltb-true, ltb-false, leb-true, leb-false, le-leb, and_parts}
use Rattle.faults.specs.declared.Fault.TheVariants.{NameTwice, MalformedName, BadLevel, LevelCount, TableFull, OutOfOrder}
use Rattle.semantics.specs.declared.Head.TheVariants as heads
use Rattle.semantics.specs.Rules.{Rule as RuleOf}
use Rattle.fields.specs.declared.field.Letter.{Letter}
use Rattle.fields.specs.declared.field.Letter.TheVariants.{Atom, Row, Rule, Bar}
use Rattle.fields.specs.Pieces.{Field, placed, fields_of, fields_from, lines_of}
use Rattle.fields.specs.Words.{is_name, level_of, letter_of}
use Rattle.fields.specs.Places.{place_of}
use Rattle.records.specs.declared.body.Placed.{Placed}
use Rattle.records.specs.declared.refusal.Refusal.{Refusal}
use Rattle.records.specs.Reading.{then, at_byte, known, unused, leveled, literals, AtomRecord, RowRecord, LineRecord, atom_fields, atom_record, row_record, line_record, bar_record, rank_of, ordered, opening, tail}
use Rattle.declarations.specs.Whole.{ended, is_whole}
use Rattle.declarations.specs.Declaring.{Located, in_line, Declared, none_declared, with_atom, with_row, room_for, declaration, declares, Declarations, declarations}
use Rattle.grammar.specs.Entering.{literals_of, laid, entered, entering, ruled}
use Rattle.grammar.specs.Texts.{Described, described, on_sheet}
use Rattle.grammar.specs.Format.{Named, Record, atom, row, line, bar, digits, literal_text, letter_text, letter, fields, line_text, unlines, commas, place, literal_named, with_record, meant_after, Known, AllKnown, Allowed, ValidAfter, RowsBelow, AcceptedIsRendered}
use Rattle.grammar.proofs.Wording.{err_is_not_ok, then_ok, cond_ok, unless_ok, ok_or_ok, level_written, letter_written}
use Rattle.grammar.proofs.Splitting.{commas_fields, unlines_lines}
use Rattle.grammar.proofs.Fitting.{Fitted, fitted_none, fitted_atom, fitted_row, laid_fits}
use Rattle.grammar.proofs.Entering.{entered_fits, fits_below}
use Rattle.grammar.proofs.Meanings.{known_ok, known_below, literals_written}

pub in_line_ok : {X : Type 0} (n : ℕ) (r : Result X Refusal) (x : X) → in_line n r ≡ Ok x → r ≡ Ok x
in_line_ok n (Ok y) x h = let same : y ≡ x = cc in ap Ok same
in_line_ok n (Err e) x h = absurd (err_is_not_ok h)

pub from_start : (l : List ℕ) → fields_from 0 l ≡ placed 0 (fields_of l)
from_start l = let t : leb 0 (length l) ≡ true = le-leb 0 (length l) (omega arith) in rw t

-- A RECORD BEHIND ITS FIELDS

atom_written : (names : List (List ℕ)) (k : ℕ) (fs : List (List ℕ)) (a : AtomRecord) → atom_record names (placed k fs) ≡ Ok a
    → (fs ≡ a.name ∷ digits a.level ∷ []) × (is_name a.name ≡ true) × (is_some (place_of names a.name) ≡ false) × (a.level ≤ 15) × (length names < 256)
atom_written names k [] a h = absurd (err_is_not_ok h)
atom_written names k (f ∷ []) a h = absurd (err_is_not_ok h)
atom_written names k (f ∷ g ∷ []) a h =
    let name : Field = record { bytes = f; at = k } in
    let level : Field = record { bytes = g; at = k + length f + 1 } in
    let room : AtomRecord → Result AtomRecord Refusal = λ x. cond (ltb (length names) 256) (Ok x) (Err (at_byte LevelCount 0)) in
    let make : ℕ → Result AtomRecord Refusal = λ l. Ok (record { name = f; level = l }) in
    let p = then_ok (atom_fields names name level) room a h in
    let s = cond_ok (ltb (length names) 256) (Ok p.0) (at_byte LevelCount 0) a p.2 in
    let q = then_ok (unused names name) (λ _. then (leveled level) make) p.0 p.1 in
    let r = then_ok (leveled level) make p.0 q.2 in
    let u = cond_ok (is_name f) (cond (is_some (place_of names f)) (Err (at_byte NameTwice k)) (Ok tt)) (at_byte MalformedName k) q.0 q.1 in
    let v = unless_ok (is_some (place_of names f)) (Ok tt) (at_byte NameTwice k) q.0 u.1 in
    let w = level_written g r.0 (ok_or_ok (level_of g) (at_byte BadLevel (k + length f + 1)) r.0 r.1) in
    let same : record { name = f; level = r.0 } ≡ a = let x = r.2 in let y = s.1 in cc in
    let P : AtomRecord → Type 0 = λ x. (f ∷ g ∷ [] ≡ x.name ∷ digits x.level ∷ []) × (is_name x.name ≡ true) × (is_some (place_of names x.name) ≡ false) × (x.level ≤ 15) × (length names < 256) in
    subst P same (ap (λ x. f ∷ x ∷ []) w.1, u.0, v.0, w.0, ltb-true (length names) 256 s.0)
atom_written names k (f ∷ g ∷ i ∷ fs) a h = absurd (err_is_not_ok h)

row_written : (names : List (List ℕ)) (k : ℕ) (fs : List (List ℕ)) (x : RowRecord) → row_record names (placed k fs) ≡ Ok x
    → (f : List ℕ) × (g : List ℕ) × (i : List ℕ) × (fs ≡ f ∷ g ∷ i ∷ []) × Known names f × Known names g × Known names i
    × (x.row ≡ record { one = place names f; other = place names g; to = place names i })
row_written names k [] x h = absurd (err_is_not_ok h)
row_written names k (f ∷ []) x h = absurd (err_is_not_ok h)
row_written names k (f ∷ g ∷ []) x h = absurd (err_is_not_ok h)
row_written names k (f ∷ g ∷ i ∷ []) x h =
    let first : Field = record { bytes = f; at = k } in
    let second : Field = record { bytes = g; at = k + length f + 1 } in
    let out : Field = record { bytes = i; at = k + length f + 1 + length g + 1 } in
    let done : ℕ → ℕ → ℕ → Result RowRecord Refusal = λ a b c. Ok (record { row = record { one = a; other = b; to = c }; out = out.at }) in
    let p = then_ok (known names first) (λ a. then (known names second) (λ b. then (known names out) (done a b))) x h in
    let q = then_ok (known names second) (λ b. then (known names out) (done p.0 b)) x p.2 in
    let s = then_ok (known names out) (done p.0 q.0) x q.2 in
    let a = known_ok names first p.0 p.1 in
    let b = known_ok names second q.0 q.1 in
    let c = known_ok names out s.0 s.1 in
    let same : record { row = record { one = p.0; other = q.0; to = s.0 }; out = out.at } ≡ x = let e = s.2 in cc in (
      f,
      g,
      i,
      refl,
      a.0,
      b.0,
      c.0,
      sym (ap (λ r. r.row) same) ∙ ap (λ y. record { one = y; other = q.0; to = s.0 }) a.1 ∙ ap (λ y. record { one = place names f; other = y; to = s.0 }) b.1
          ∙ ap (λ y. record { one = place names f; other = place names g; to = y }) c.1,
    )
row_written names k (f ∷ g ∷ i ∷ j ∷ fs) x h = absurd (err_is_not_ok h)

rule_written : (names : List (List ℕ)) (k : ℕ) (fs : List (List ℕ)) (x : LineRecord) → line_record names (placed k fs) ≡ Ok x
    → (head : List ℕ) × (body : List Named) × (fs ≡ head ∷ map literal_text body) × Known names head × AllKnown names body
    × (x.head ≡ heads.Atom (place names head)) × (literals_of x.body ≡ map (literal_named names) body)
rule_written names k [] x h = absurd (err_is_not_ok h)
rule_written names k (f ∷ fs) x h =
    let head : Field = record { bytes = f; at = k } in
    let rest = placed (k + length f + 1) fs in
    let make : ℕ → List Placed → Result LineRecord Refusal = λ a body. Ok (record { head = heads.Atom a; body = body }) in
    let p = then_ok (known names head) (λ a. then (literals names rest) (make a)) x h in
    let q = then_ok (literals names rest) (make p.0) x p.2 in
    let a = known_ok names head p.0 p.1 in
    let b = literals_written names (k + length f + 1) fs q.0 q.1 in
    let same : record { head = heads.Atom p.0; body = q.0 } ≡ x = let e = q.2 in cc in
    (f, b.0, ap (λ r. f ∷ r) b.1, a.0, b.2, sym (ap (λ l. l.head) same) ∙ ap heads.Atom a.1, sym (ap (λ l. literals_of l.body) same) ∙ b.3)

bar_written : (names : List (List ℕ)) (k : ℕ) (fs : List (List ℕ)) (x : LineRecord) → bar_record names (placed k fs) ≡ Ok x
    → (body : List Named) × (fs ≡ map literal_text body) × AllKnown names body × (x.head ≡ heads.Bar) × (literals_of x.body ≡ map (literal_named names) body)
bar_written names k fs x h =
    let make : List Placed → Result LineRecord Refusal = λ body. Ok (record { head = heads.Bar; body = body }) in
    let q = then_ok (literals names (placed k fs)) make x h in
    let b = literals_written names k fs q.0 q.1 in
    let same : record { head = heads.Bar; body = q.0 } ≡ x = let e = q.2 in cc in
    (b.0, b.1, b.2, sym (ap (λ l. l.head) same), sym (ap (λ l. literals_of l.body) same) ∙ b.3)

-- A DECLARATION

abbrev pub Fits : Declared → Type 0
Fits d = Fitted d.names d.levels d.rows

-- the record behind the fields after its letter, and what it adds to what is described
pub record Behind (l : Letter) (fs : List (List ℕ)) (before after : Described) : Type 0 where
  pub by : Record
  pub lettered : l ≡ letter by
  pub fielded : fs ≡ fields by
  pub allowed : Allowed before by
  pub adds : after ≡ with_record before by

atom_declared : (d : Declared) (k : ℕ) (fs : List (List ℕ)) (more : Declared) → declaration Atom d (placed k fs) ≡ Ok more → Fits d
    → Behind Atom fs (described d []) (described more []) × Fits more
atom_declared d k fs more h fit =
    let p = then_ok (atom_record d.names (placed k fs)) (λ a. Ok (with_atom d a)) more h in
    let w = atom_written d.names k fs p.0 p.1 in
    let same : with_atom d p.0 ≡ more = let e = p.2 in cc in (
      record { by = atom p.0.name p.0.level; lettered = refl; fielded = w.0; allowed = (w.1, w.2, w.3, w.4); adds = sym (ap (λ x. described x []) same) },
      subst Fits same (fitted_atom d.names d.levels d.rows fit p.0.name p.0.level w.3 w.4),
    )

row_declared : (d : Declared) (k : ℕ) (fs : List (List ℕ)) (more : Declared) → declaration Row d (placed k fs) ≡ Ok more → Fits d
    → Behind Row fs (described d []) (described more []) × Fits more
row_declared d k fs more h fit =
    let p = then_ok (row_record d.names (placed k fs)) (room_for d) more h in
    let x = p.0 in
    let s = unless_ok (leb 64 (length d.rows)) (Ok (with_row d x)) (at_byte TableFull 0) more p.2 in
    let w = row_written d.names k fs x p.1 in
    let same : with_row d x ≡ more = let e = s.1 in cc in
    let names = d.names in
    let meaning = w.7 in (
      record {
        by = row w.0 w.1 w.2;
        lettered = refl;
        fielded = w.3;
        allowed = (w.4, w.5, w.6, leb-false 64 (length d.rows) s.0);
        adds = sym (ap (λ y. described y []) same) ∙ ap (λ r. record { names = names; levels = d.levels; rows = d.rows ++ r ∷ []; rules = [] }) meaning;
      },
      subst Fits same
          (fitted_row names d.levels d.rows fit x.row
          (let l = known_below names w.0 w.4 in let e = ap (λ r. r.one) meaning in rw e l)
          (let l = known_below names w.1 w.5 in let e = ap (λ r. r.other) meaning in rw e l)
          (let l = known_below names w.2 w.6 in let e = ap (λ r. r.to) meaning in rw e l)),
    )

-- A LINE OR A BAR

module _ (d : Declared) (rules : List RuleOf) (n : ℕ) (rule : RuleOf) where
  rule_entered : (k : ℕ) (fs : List (List ℕ)) → entering d rules n Rule (placed k fs) ≡ Ok rule → Behind Rule fs (described d rules) (described d (rules ++ rule ∷ []))
  rule_entered k fs h =
      let p = then_ok (in_line n (line_record d.names (placed k fs))) (entered d rules n) rule h in
      let x = p.0 in
      let w = rule_written d.names k fs x (in_line_ok n (line_record d.names (placed k fs)) x p.1) in
      let e = entered_fits d rules n x rule p.2 in
      let head = w.0 in
      let body = w.1 in
      let means = map (literal_named d.names) body in
      let long : length (literals_of x.body) ≡ length body = ap length w.6 ∙ length-map body (literal_named d.names) in
      let eight = e.2 in
      let fit = rw w.5 at (rw w.6 at e.3) in
      let whole : record { head = heads.Atom (place d.names head); body = means } ≡ rule =
      ap (λ b. record { head = heads.Atom (place d.names head); body = b }) (sym w.6) ∙ ap (λ y. record { head = y; body = literals_of x.body }) (sym w.5) ∙ e.0 in
      record {
        by = line head body;
        lettered = refl;
        fielded = w.2;
        allowed = (w.3, w.4, e.1, omega arith, fits_below d.levels (place d.names head) means fit);
        adds = ap (λ r. described d (rules ++ r ∷ [])) (sym whole);
      }

  bar_entered : (k : ℕ) (fs : List (List ℕ)) → entering d rules n Bar (placed k fs) ≡ Ok rule → Behind Bar fs (described d rules) (described d (rules ++ rule ∷ []))
  bar_entered k fs h =
      let p = then_ok (in_line n (bar_record d.names (placed k fs))) (entered d rules n) rule h in
      let x = p.0 in
      let w = bar_written d.names k fs x (in_line_ok n (bar_record d.names (placed k fs)) x p.1) in
      let e = entered_fits d rules n x rule p.2 in
      let body = w.0 in
      let long : length (literals_of x.body) ≡ length body = ap length w.4 ∙ length-map body (literal_named d.names) in
      let eight = e.2 in
      let whole : record { head = heads.Bar; body = map (literal_named d.names) body } ≡ rule =
      ap (λ b. record { head = heads.Bar; body = b }) (sym w.4) ∙ ap (λ y. record { head = y; body = literals_of x.body }) (sym w.3) ∙ e.0 in
      record {
        by = bar body;
        lettered = refl;
        fielded = w.1;
        allowed = (w.2, e.1, omega arith);
        adds = ap (λ r. described d (rules ++ r ∷ [])) (sym whole);
      }

  line_entered : (l : Letter) (k : ℕ) (fs : List (List ℕ)) → 2 ≤ rank_of l → entering d rules n l (placed k fs) ≡ Ok rule
      → Behind l fs (described d rules) (described d (rules ++ rule ∷ []))
  line_entered Atom k fs e h = absurd (omega arith)
  line_entered Row k fs e h = absurd (omega arith)
  line_entered Rule k fs e h = rule_entered k fs h
  line_entered Bar k fs e h = bar_entered k fs h

-- THE LETTER OF A LINE

-- a line's fields: its letter, and those after it
pub record Opens (last l : Letter) (text : List ℕ) : Type 0 where
  pub rest : List (List ℕ)
  pub at : ℕ
  pub parts : fields_of text ≡ letter_text l ∷ rest
  pub left : tail (fields_from 0 text) ≡ placed at rest
  pub ordered_so : rank_of last ≤ rank_of l

letter_opens : (last l : Letter) (o : Option Letter) → ordered last o ≡ Ok l → (o ≡ Some l) × (rank_of last ≤ rank_of l)
letter_opens last l None h = absurd (err_is_not_ok h)
letter_opens last l (Some m) h =
    let p = unless_ok (ltb (rank_of m) (rank_of last)) (Ok m) (at_byte OutOfOrder 0) l h in
    let same : m ≡ l = let i = p.1 in cc in
    let r : rank_of last ≤ rank_of m = ltb-false (rank_of m) (rank_of last) p.0 in
    (ap Some same, rw (← same) r)

pub line_opens : (last l : Letter) (text : List ℕ) → opening last (fields_from 0 text) ≡ Ok l → Opens last l text
line_opens last l text h = go (fields_of text) refl (sym (ap (opening last) (from_start text)) ∙ h)
  where
    go : (fs : List (List ℕ)) → fields_of text ≡ fs → opening last (placed 0 (fields_of text)) ≡ Ok l → Opens last l text
    go [] e h = absurd (err_is_not_ok (sym (ap (λ fs. opening last (placed 0 fs)) e) ∙ h))
    go (f ∷ fs) e h =
        let o = letter_opens last l (letter_of f) (sym (ap (λ fs. opening last (placed 0 fs)) e) ∙ h) in
        record {
          rest = fs;
          at = 0 + length f + 1;
          parts = e ∙ ap (λ x. x ∷ fs) (letter_written f l o.0);
          left = ap tail (from_start text) ∙ ap (λ fs. tail (placed 0 fs)) e;
          ordered_so = o.1;
        }

written_line : (last l : Letter) (text : List ℕ) (o : Opens last l text) (before after : Described) (b : Behind l o.rest before after) → text ≡ line_text b.by
written_line last l text o before after b =
    sym (commas_fields text) ∙ ap commas o.parts ∙ ap (λ fs. commas (letter_text l ∷ fs)) b.fielded ∙ ap (λ x. commas (letter_text x ∷ fields b.by)) b.lettered

-- ONE RECORD MORE

joined_valid : (last l : Letter) (text : List ℕ) (o : Opens last l text) (before after : Described) (b : Behind l o.rest before after) (rs : List Record)
    → ValidAfter after l rs → ValidAfter before last (b.by ∷ rs)
joined_valid last l text o before after b rs v =
    let P : Letter → Type 0 = λ x. rank_of last ≤ rank_of x in
    let V : Described → Type 0 = λ x. ValidAfter x l rs in
    let W : Letter → Type 0 = λ x. ValidAfter (with_record before b.by) x rs in
    (subst P b.lettered o.ordered_so, b.allowed, subst W b.lettered (subst V b.adds v))

-- DECLARATIONS

pub record DeclaredBy (before : Described) (last : Letter) (lines : List (List ℕ)) (p : Declarations) : Type 0 where
  pub by : List Record
  pub valid : ValidAfter before last by
  pub written : lines ≡ map line_text by ++ p.rest
  pub means : described p.declared [] ≡ meant_after before by
  pub fit : Fits p.declared

declared_none : (d : Declared) (last : Letter) (n : ℕ) (lines : List (List ℕ)) (p : Declarations) → record { declared = d; line = n; rest = lines } ≡ p → Fits d
    → DeclaredBy (described d []) last lines p
declared_none d last n lines p same fit =
    let F : Declarations → Type 0 = λ x. Fits x.declared in
    record { by = []; valid = tt; written = ap (λ x. x.rest) same; means = sym (ap (λ x. described x.declared []) same); fit = subst F same fit }

declared_more : (d more : Declared) (last a : Letter) (l : List ℕ) (ls : List (List ℕ)) (p : Declarations) (o : Opens last a l)
    → Behind a o.rest (described d []) (described more []) → DeclaredBy (described more []) a ls p → DeclaredBy (described d []) last (l ∷ ls) p
declared_more d more last a l ls p o b r = record {
  by = b.by ∷ r.by;
  valid = joined_valid last a l o (described d []) (described more []) b r.by r.valid;
  written = ap (λ x. x ∷ ls) (written_line last a l o (described d []) (described more []) b) ∙ ap (λ x. line_text b.by ∷ x) r.written;
  means = r.means ∙ ap (λ x. meant_after x r.by) b.adds;
  fit = r.fit;
}

pub declared_written : (d : Declared) (last : Letter) (n : ℕ) (ls : List (List ℕ)) (p : Declarations) → declarations d last n ls ≡ Ok p → Fits d
    → DeclaredBy (described d []) last ls p
declared_written d last n [] p h fit = let same : record { declared = d; line = n; rest = [] } ≡ p = cc in declared_none d last n [] p same fit
declared_written d last n (l ∷ ls) p h fit =
    let on : Letter → Result Declarations Located = λ a. cond (declares a) (then (in_line (n + 1) (declaration a d (tail (fields_from 0 l)))) (λ more. declarations more a (n + 1) ls)) (Ok (record { declared = d; line = n; rest = l ∷ ls })) in
    let q = then_ok (in_line (n + 1) (opening last (fields_from 0 l))) on p h in
    let o = line_opens last q.0 l (in_line_ok (n + 1) (opening last (fields_from 0 l)) q.0 q.1) in
    go q.0 o (λ more e f. declared_written more q.0 (n + 1) ls p e f) q.2
  where
    stays : (a : Letter) → ◌≡◌ {A = Result Declarations Located} (Ok (record { declared = d; line = n; rest = l ∷ ls })) (Ok p) → DeclaredBy (described d []) last (l ∷ ls) p
    stays a h = let same : record { declared = d; line = n; rest = l ∷ ls } ≡ p = cc in declared_none d last n (l ∷ ls) p same fit

    steps : (a : Letter) (o : Opens last a l) → ((more : Declared) → declaration a d (placed o.at o.rest) ≡ Ok more → Behind a o.rest (described d []) (described more []) × Fits more)
        → ((more : Declared) → declarations more a (n + 1) ls ≡ Ok p → Fits more → DeclaredBy (described more []) a ls p)
        → then (in_line (n + 1) (declaration a d (tail (fields_from 0 l)))) (λ more. declarations more a (n + 1) ls) ≡ Ok p → DeclaredBy (described d []) last (l ∷ ls) p
    steps a o one ih h =
        let q = then_ok (in_line (n + 1) (declaration a d (tail (fields_from 0 l)))) (λ more. declarations more a (n + 1) ls) p h in
        let read = in_line_ok (n + 1) (declaration a d (tail (fields_from 0 l))) q.0 q.1 in
        let b = one q.0 (sym (ap (declaration a d) o.left) ∙ read) in
        declared_more d q.0 last a l ls p o b.0 (ih q.0 q.2 b.1)

    go : (a : Letter) (o : Opens last a l) → ((more : Declared) → declarations more a (n + 1) ls ≡ Ok p → Fits more → DeclaredBy (described more []) a ls p)
        → cond (declares a) (then (in_line (n + 1) (declaration a d (tail (fields_from 0 l)))) (λ more. declarations more a (n + 1) ls)) (Ok (record { declared = d; line = n; rest = l ∷ ls })) ≡ Ok p
        → DeclaredBy (described d []) last (l ∷ ls) p
    go Atom o ih h = steps Atom o (λ more e. atom_declared d o.at o.rest more e fit) ih h
    go Row o ih h = steps Row o (λ more e. row_declared d o.at o.rest more e fit) ih h
    go Rule o ih h = stays Rule h
    go Bar o ih h = stays Bar h

-- LINES AND BARS

pub record RuledBy (before : Described) (lines : List (List ℕ)) (after : Described) : Type 0 where
  pub by : List Record
  pub valid : (last : Letter) → ValidAfter before last by
  pub written : lines ≡ map line_text by
  pub means : after ≡ meant_after before by

top_rank : (l : Letter) → rank_of l ≤ 2
top_rank Atom = omega arith
top_rank Row = omega arith
top_rank Rule = omega arith
top_rank Bar = omega arith

pub ruled_written : (d : Declared) (rules : List RuleOf) (n : ℕ) (ls : List (List ℕ)) (all : List RuleOf) → ruled d rules n ls ≡ Ok all
    → RuledBy (described d rules) ls (described d all)
ruled_written d rules n [] all h = let same : rules ≡ all = cc in record { by = []; valid = λ last. tt; written = refl; means = sym (ap (described d) same) }
ruled_written d rules n (l ∷ ls) all h =
    let on : Letter → Result (List RuleOf) Located = λ a. then (entering d rules (n + 1) a (tail (fields_from 0 l))) (λ rule. ruled d (rules ++ rule ∷ []) (n + 1) ls) in
    let q = then_ok (in_line (n + 1) (opening Rule (fields_from 0 l))) on all h in
    let a = q.0 in
    let o = line_opens Rule a l (in_line_ok (n + 1) (opening Rule (fields_from 0 l)) a q.1) in
    let s = then_ok (entering d rules (n + 1) a (tail (fields_from 0 l))) (λ rule. ruled d (rules ++ rule ∷ []) (n + 1) ls) all q.2 in
    let rule = s.0 in
    let before = described d rules in
    let after = described d (rules ++ rule ∷ []) in
    let b = line_entered d rules (n + 1) rule a o.at o.rest o.ordered_so (sym (ap (entering d rules (n + 1) a) o.left) ∙ s.1) in
    let r = ruled_written d (rules ++ rule ∷ []) (n + 1) ls all s.2 in
    record {
      by = b.by ∷ r.by;
      valid = λ last.
          let top = top_rank last in
          let high = o.ordered_so in
          let o' : Opens last a l = record { rest = o.rest; at = o.at; parts = o.parts; left = o.left; ordered_so = omega arith } in
          joined_valid last a l o' before after b r.by (r.valid a);
      written = ap (λ x. x ∷ ls) (written_line Rule a l o before after b) ∙ ap (λ x. line_text b.by ∷ x) r.written;
      means = r.means ∙ ap (λ x. meant_after x r.by) b.adds;
    }

-- THE WHOLE TEXT

both_valid : (before : Described) (last : Letter) (rs ss : List Record) → ValidAfter before last rs → ((l : Letter) → ValidAfter (meant_after before rs) l ss)
    → ValidAfter before last (rs ++ ss)
both_valid before last [] ss v w = w last
both_valid before last (r ∷ rs) ss v w = (v.0, v.1, both_valid (with_record before r) (letter r) rs ss v.2 w)

both_meant : (before : Described) (rs ss : List Record) → meant_after before (rs ++ ss) ≡ meant_after (meant_after before rs) ss
both_meant before [] ss = refl
both_meant before (r ∷ rs) ss = both_meant (with_record before r) rs ss

pub accepted_is_rendered : AcceptedIsRendered
accepted_is_rendered text d h =
    let p = cond_ok (is_whole text) (then (declarations none_declared Atom 0 (lines_of text)) on_sheet) (record { number = 27; line = 0; byte = 0 }) d h in
    let whole = and_parts (leb (length text) 65536) (ended text) p.0 in
    let q = then_ok (declarations none_declared Atom 0 (lines_of text)) on_sheet d p.1 in
    let ds = q.0 in
    let dd = ds.declared in
    let make : List RuleOf → Result Described Located = λ rules. Ok (described dd rules) in
    let r = then_ok (laid dd) (λ _. then (ruled dd [] ds.line ds.rest) make) d q.2 in
    let s = then_ok (ruled dd [] ds.line ds.rest) make d r.2 in
    let one = declared_written none_declared Atom 0 (lines_of text) ds q.1 fitted_none in
    let two = ruled_written dd [] ds.line ds.rest s.0 s.1 in
    let laid_so = laid_fits dd.names dd.levels dd.rows dd.outs one.fit r.1 in
    let rs = one.by ++ two.by in
    let before = described none_declared [] in
    let V : Described → Type 0 = λ x. (l : Letter) → ValidAfter x l two.by in
    let valid = both_valid before Atom one.by two.by one.valid (subst V one.means two.valid) in
    let same : described dd s.0 ≡ d = let e = s.2 in cc in
    let means : d ≡ meant_after before rs = sym same ∙ two.means ∙ ap (λ x. meant_after x two.by) one.means ∙ sym (both_meant before one.by two.by) in
    let L : Described → Type 0 = λ x. (0 < length x.levels) × RowsBelow x.levels x.rows in
    let layable : L (meant_after before rs) = subst L (same ∙ means) laid_so in
    let lines : lines_of text ≡ map line_text rs = one.written ∙ ap (λ x. map line_text one.by ++ x) two.written ∙ sym (map-append line_text one.by two.by) in
    (rs, (valid, layable), sym (unlines_lines text whole.1) ∙ ap unlines lines, leb-true (length text) 65536 whole.0, means)
