-- The rendering of valid records is accepted.
use Rattle.std.proofs.Common.{◌≡◌, ℕ, ◌+◌, ◌<◌, ◌≤◌, true, false, cond, ltb, leb, List, [], ◌∷◌, ◌++◌, map, length, is_some, Ok, Err, Result, sym, refl, ap, ◌∙◌, subst, arith}
use Rattle.std.specs.Option.{ok_or}
use Rattle.std.proofs.lemmas.List.{length-map}
use Rattle.std.proofs.lemmas.Bool.{lt-ltb, le-ltb, le-leb, lt-leb, and_from}
use Rattle.faults.specs.declared.Fault.TheVariants.{NameTwice, MalformedName, BadLevel, LevelCount, TableFull, OutOfOrder}
use Rattle.semantics.specs.declared.Head.{Head}
use Rattle.semantics.specs.declared.Head.TheVariants as heads
use Rattle.semantics.specs.declared.Literal.{Literal}
use Rattle.semantics.specs.Rules.{Rule as RuleOf, head_below}
use Rattle.fields.specs.declared.field.Letter.{Letter}
use Rattle.fields.specs.declared.field.Letter.TheVariants.{Atom, Row, Rule, Bar}
use Rattle.fields.specs.Pieces.{Field, placed, fields_from, lines_of}
use Rattle.fields.specs.Words.{is_name}
use Rattle.fields.specs.Places.{place_of}
use Rattle.records.specs.declared.body.Placed.{Placed}
use Rattle.records.specs.declared.refusal.Refusal.{Refusal}
use Rattle.records.specs.Reading.{then, at_byte, known, unused, leveled, literals, AtomRecord, RowRecord, LineRecord, atom_record, row_record, line_record, bar_record, rank_of, ordered, opening, tail}
use Rattle.declarations.specs.Whole.{ended, is_whole}
use Rattle.declarations.specs.Declaring.{Located, in_line, Declared, none_declared, with_atom, with_row, room_for, declaration, declares, Declarations, declarations}
use Rattle.grammar.specs.Entering.{literals_of, laid, entered, entering, ruled}
use Rattle.grammar.specs.Texts.{Described, described, on_sheet}
use Rattle.grammar.specs.Format.{Named, Record, atom, row, line, bar, digits, literal_text, letter_text, letter, fields, line_text, rendered, place, literal_named, with_record, meant_after, meant, Known, AllKnown, Allowed, ValidAfter, RowsBelow, RenderedIsAccepted}
use Rattle.grammar.proofs.Wording.{level_read, letter_read, name_free, literal_free, digits_free}
use Rattle.grammar.proofs.Splitting.{free, AllFree, fields_commas, commas_free, lines_front, ended_unlines}
use Rattle.grammar.proofs.Fitting.{fitted_none, fitted_atom, fitted_row, fit_laid}
use Rattle.grammar.proofs.Entering.{LiteralsFit, fit_entered, below_fits}
use Rattle.grammar.proofs.Meanings.{known_read, known_below, literals_read, known_fit}
use Rattle.grammar.proofs.Accepting.{from_start, Fits}

-- NO SEPARATOR INSIDE A FIELD

literals_free : (c : ℕ) (names : List (List ℕ)) (body : List Named) → c < 45 → AllKnown names body → AllFree c (map literal_text body)
literals_free c names [] l h = tt
literals_free c names (b ∷ body) l h = (literal_free c b.side b.name l h.0.0, literals_free c names body l h.1)

pub fields_free : (c : ℕ) (d : Described) (r : Record) → c < 45 → Allowed d r → AllFree c (fields r)
fields_free c d (atom name k) l h = (name_free c name (omega arith) h.0, (digits_free c k (omega arith) h.2, tt))
fields_free c d (row first second out) l h =
    (name_free c first (omega arith) h.0.0, (name_free c second (omega arith) h.1.0, (name_free c out (omega arith) h.2.0, tt)))
fields_free c d (line head body) l h = (name_free c head (omega arith) h.0.0, literals_free c d.names body l h.1)
fields_free c d (bar body) l h = literals_free c d.names body l h.0

pub no_comma : (l : Letter) → free 44 (letter_text l) ≡ true
no_comma Atom = refl
no_comma Row = refl
no_comma Rule = refl
no_comma Bar = refl

no_end : (l : Letter) → free 10 (letter_text l) ≡ true
no_end Atom = refl
no_end Row = refl
no_end Rule = refl
no_end Bar = refl

fields_back : (d : Described) (r : Record) → Allowed d r → fields_from 0 (line_text r) ≡ placed 0 (letter_text (letter r) ∷ fields r)
fields_back d r h =
    from_start (line_text r) ∙ ap (placed 0) (fields_commas (letter_text (letter r)) (fields r) (no_comma (letter r), fields_free 44 d r (omega arith) h))

pub lines_back : (d : Described) (last : Letter) (rs : List Record) → ValidAfter d last rs → lines_of (rendered rs) ≡ map line_text rs
lines_back d last [] h = refl
lines_back d last (r ∷ rs) h =
    let clean = commas_free (letter_text (letter r)) (fields r) (no_end (letter r), fields_free 10 d r (omega arith) h.1) in
    lines_front (line_text r) (rendered rs) clean ∙ ap (λ ls. line_text r ∷ ls) (lines_back (with_record d r) (letter r) rs h.2)

-- A RECORD IS READ

-- where the fields after the letter begin
abbrev behind : Letter → ℕ
behind l = 0 + length (letter_text l) + 1

opening_read : (last l : Letter) (fs : List (List ℕ)) → rank_of last ≤ rank_of l → opening last (placed 0 (letter_text l ∷ fs)) ≡ Ok l
opening_read last l fs h =
    ap (ordered last) (letter_read l) ∙ ap (λ t. cond t (Err (at_byte OutOfOrder 0)) (Ok l)) (le-ltb (rank_of l) (rank_of last) h)

atom_read : (names : List (List ℕ)) (j : ℕ) (name : List ℕ) (k : ℕ) → is_name name ≡ true → is_some (place_of names name) ≡ false → k ≤ 15 → length names < 256
    → atom_record names (placed j (name ∷ digits k ∷ [])) ≡ Ok (record { name = name; level = k })
atom_read names j name k a b l room =
    let field : Field = record { bytes = name; at = j } in
    let digit : Field = record { bytes = digits k; at = j + length name + 1 } in
    let make : ℕ → Result AtomRecord Refusal = λ n. Ok (record { name = name; level = n }) in
    let fits : AtomRecord → Result AtomRecord Refusal = λ x. cond (ltb (length names) 256) (Ok x) (Err (at_byte LevelCount 0)) in
    let u : unused names field ≡ Ok tt =
    ap (λ t. cond t (cond (is_some (place_of names name)) (Err (at_byte NameTwice j)) (Ok tt)) (Err (at_byte MalformedName j))) a ∙ ap (λ t. cond t (Err (at_byte NameTwice j)) (Ok tt)) b in
    let v : leveled digit ≡ Ok k = ap (λ o. ok_or o (at_byte BadLevel (j + length name + 1))) (level_read k l) in
    ap (λ r. then (then r (λ _. then (leveled digit) make)) fits) u ∙ ap (λ r. then (then r make) fits) v
    ∙ ap (λ t. cond t (make k) (Err (at_byte LevelCount 0))) (lt-ltb (length names) 256 room)

row_read : (names : List (List ℕ)) (j : ℕ) (f g i : List ℕ) → Known names f → Known names g → Known names i
    → row_record names (placed j (f ∷ g ∷ i ∷ [])) ≡ Ok (record { row = record { one = place names f; other = place names g; to = place names i }; out = j + length f + 1 + length g + 1 })
row_read names j f g i a b c =
    let second : Field = record { bytes = g; at = j + length f + 1 } in
    let out : Field = record { bytes = i; at = j + length f + 1 + length g + 1 } in
    let done : ℕ → ℕ → ℕ → Result RowRecord Refusal = λ x y z. Ok (record { row = record { one = x; other = y; to = z }; out = out.at }) in
    ap (λ r. then r (λ x. then (known names second) (λ y. then (known names out) (done x y)))) (known_read names (record { bytes = f; at = j }) a)
    ∙ ap (λ r. then r (λ y. then (known names out) (done (place names f) y))) (known_read names second b)
    ∙ ap (λ r. then r (done (place names f) (place names g))) (known_read names out c)

-- a line or a bar that is read, with its head and its literals
pub record LineRead (names : List (List ℕ)) (read : Result LineRecord Refusal) (head : Head) (body : List Named) : Type 0 where
  pub said : LineRecord
  pub reads : read ≡ Ok said
  pub headed : said.head ≡ head
  pub bodied : literals_of said.body ≡ map (literal_named names) body

rule_read : (names : List (List ℕ)) (j : ℕ) (head : List ℕ) (body : List Named) → Known names head → AllKnown names body
    → LineRead names (line_record names (placed j (head ∷ map literal_text body))) (heads.Atom (place names head)) body
rule_read names j head body a b =
    let rest = placed (j + length head + 1) (map literal_text body) in
    let make : ℕ → List Placed → Result LineRecord Refusal = λ x y. Ok (record { head = heads.Atom x; body = y }) in
    let w = literals_read names (j + length head + 1) body b in
    record {
      said = record { head = heads.Atom (place names head); body = w.0 };
      reads = ap (λ r. then r (λ x. then (literals names rest) (make x))) (known_read names (record { bytes = head; at = j }) a) ∙ ap (λ r. then r (make (place names head))) w.1;
      headed = refl;
      bodied = w.2;
    }

bar_read : (names : List (List ℕ)) (j : ℕ) (body : List Named) → AllKnown names body → LineRead names (bar_record names (placed j (map literal_text body))) heads.Bar body
bar_read names j body b =
    let make : List Placed → Result LineRecord Refusal = λ y. Ok (record { head = heads.Bar; body = y }) in
    let w = literals_read names j body b in
    record { said = record { head = heads.Bar; body = w.0 }; reads = ap (λ r. then r make) w.1; headed = refl; bodied = w.2 }

-- A DECLARATION

pub record Adds (d : Declared) (r : Record) (j : ℕ) : Type 0 where
  pub more : Declared
  pub reads : declaration (letter r) d (placed j (fields r)) ≡ Ok more
  pub adds : described more [] ≡ with_record (described d []) r
  pub fit : Fits more

atom_adds : (d : Declared) (name : List ℕ) (k j : ℕ) → Allowed (described d []) (atom name k) → Fits d → Adds d (atom name k) j
atom_adds d name k j h fit = record {
  more = with_atom d (record { name = name; level = k });
  reads = ap (λ r. then r (λ a. Ok (with_atom d a))) (atom_read d.names j name k h.0 h.1 h.2 h.3);
  adds = refl;
  fit = fitted_atom d.names d.levels d.rows fit name k h.2 h.3;
}

row_adds : (d : Declared) (f g i : List ℕ) (j : ℕ) → Allowed (described d []) (row f g i) → Fits d → Adds d (row f g i) j
row_adds d f g i j h fit =
    let names = d.names in
    let x : RowRecord = record { row = record { one = place names f; other = place names g; to = place names i }; out = j + length f + 1 + length g + 1 } in
    record {
      more = with_row d x;
      reads = ap (λ r. then r (room_for d)) (row_read names j f g i h.0 h.1 h.2) ∙ ap (λ t. cond t (Err (at_byte TableFull 0)) (Ok (with_row d x))) (lt-leb 64 (length d.rows) h.3);
      adds = refl;
      fit = fitted_row names d.levels d.rows fit x.row (known_below names f h.0) (known_below names g h.1) (known_below names i h.2);
    }

-- A LINE OR A BAR

pub record Enters (d : Declared) (rules : List RuleOf) (n : ℕ) (r : Record) (j : ℕ) : Type 0 where
  pub rule : RuleOf
  pub reads : entering d rules n (letter r) (placed j (fields r)) ≡ Ok rule
  pub adds : described d (rules ++ rule ∷ []) ≡ with_record (described d rules) r

module _ (d : Declared) (rules : List RuleOf) (n : ℕ) (fit : Fits d) (some : 0 < length d.levels) where
  -- entering what was read
  line_enters : (read : Result LineRecord Refusal) (head : Head) (body : List Named) → LineRead d.names read head body → length rules < 512 → length body ≤ 8
      → head_below (length d.levels) head ≡ true → LiteralsFit d.levels head (map (literal_named d.names) body)
      → then (in_line n read) (entered d rules n) ≡ Ok (record { head = head; body = map (literal_named d.names) body })
  line_enters read head body x room short in-range lits =
      let said = x.said in
      let long : length (literals_of said.body) ≡ length body = ap length x.bodied ∙ length-map body (literal_named d.names) in
      let H : Head → Type 0 = λ h. head_below (length d.levels) h ≡ true in
      let F : Head → Type 0 = λ h. LiteralsFit d.levels h (map (literal_named d.names) body) in
      let G : List Literal → Type 0 = λ ls. LiteralsFit d.levels said.head ls in
      let e = fit_entered d rules n said some room (subst H (sym x.headed) in-range) (omega arith) (subst G (sym x.bodied) (subst F (sym x.headed) lits)) in
      ap (λ r. then (in_line n r) (entered d rules n)) x.reads ∙ e ∙ ap (λ h. Ok (record { head = h; body = literals_of said.body })) x.headed
      ∙ ap (λ ls. Ok (record { head = head; body = ls })) x.bodied

  rule_enters : (head : List ℕ) (body : List Named) (j : ℕ) → Allowed (described d rules) (line head body) → Enters d rules n (line head body) j
  rule_enters head body j h =
      let names = d.names in
      let below = known_below names head h.0 in
      let same = fit.paired in
      let lits = known_fit names d.levels body same h.1 in
      let means = map (literal_named names) body in
      record {
        rule = record { head = heads.Atom (place names head); body = means };
        reads = line_enters (line_record names (placed j (head ∷ map literal_text body))) (heads.Atom (place names head)) body (rule_read names j head body h.0 h.1) h.2 h.3 (lt-ltb (place names head) (length d.levels) (omega arith)) (below_fits d.levels (place names head) means lits h.4);
        adds = refl;
      }

  bar_enters : (body : List Named) (j : ℕ) → Allowed (described d rules) (bar body) → Enters d rules n (bar body) j
  bar_enters body j h =
      let names = d.names in
      record {
        rule = record { head = heads.Bar; body = map (literal_named names) body };
        reads = line_enters (bar_record names (placed j (map literal_text body))) heads.Bar body (bar_read names j body h.0) h.1 h.2 refl (known_fit names d.levels body fit.paired h.0);
        adds = refl;
      }

  enters : (r : Record) (j : ℕ) → 2 ≤ rank_of (letter r) → Allowed (described d rules) r → Enters d rules n r j
  enters (atom name k) j l h = absurd (omega arith)
  enters (row f g i) j l h = absurd (omega arith)
  enters (line head body) j l h = rule_enters head body j h
  enters (bar body) j l h = bar_enters body j h

-- DECLARATIONS

pub record ReadsDeclared (d : Declared) (last : Letter) (n : ℕ) (rs : List Record) : Type 0 where
  pub to : Declarations
  pub reads : declarations d last n (map line_text rs) ≡ Ok to
  pub rest : List Record
  pub left : to.rest ≡ map line_text rest
  pub valid : ValidAfter (described to.declared []) Rule rest
  pub means : meant_after (described d []) rs ≡ meant_after (described to.declared []) rest
  pub fit : Fits to.declared

-- one record more
module _ (d : Declared) (last : Letter) (n : ℕ) (r : Record) (rs : List Record) (rank : rank_of last ≤ rank_of (letter r)) (allowed : Allowed (described d []) r) where
  on : List Field → Letter → Result Declarations Located
  on fs a =
      cond (declares a) (then (in_line (n + 1) (declaration a d (tail fs))) (λ more. declarations more a (n + 1) (map line_text rs)))
      (Ok (record { declared = d; line = n; rest = line_text r ∷ map line_text rs }))

  opened_so : declarations d last n (line_text r ∷ map line_text rs) ≡ on (placed 0 (letter_text (letter r) ∷ fields r)) (letter r)
  unfolding on
  opened_so =
      ap (λ fs. then (in_line (n + 1) (opening last fs)) (on fs)) (fields_back (described d []) r allowed)
      ∙ ap (λ o. then (in_line (n + 1) o) (on (placed 0 (letter_text (letter r) ∷ fields r)))) (opening_read last (letter r) (fields r) rank)

  declared_on : declares (letter r) ≡ true → (a : Adds d r (behind (letter r))) → ReadsDeclared a.more (letter r) (n + 1) rs → ReadsDeclared d last n (r ∷ rs)
  unfolding on
  declared_on t a ih = record {
    to = ih.to;
    reads = opened_so
        ∙ ap (λ b. cond b (then (in_line (n + 1) (declaration (letter r) d (placed (behind (letter r)) (fields r)))) (λ more. declarations more (letter r) (n + 1) (map line_text rs))) (Ok (record { declared = d; line = n; rest = line_text r ∷ map line_text rs }))) t
        ∙ ap (λ x. then (in_line (n + 1) x) (λ more. declarations more (letter r) (n + 1) (map line_text rs))) a.reads
        ∙ ih.reads;
    rest = ih.rest;
    left = ih.left;
    valid = ih.valid;
    means = ap (λ x. meant_after x rs) (sym a.adds) ∙ ih.means;
    fit = ih.fit;
  }

  declared_up_to : declares (letter r) ≡ false → rank_of (letter r) ≡ 2 → ValidAfter (with_record (described d []) r) (letter r) rs → Fits d → ReadsDeclared d last n (r ∷ rs)
  unfolding on
  declared_up_to t two v fit = record {
    to = record { declared = d; line = n; rest = line_text r ∷ map line_text rs };
    reads = opened_so
        ∙ ap (λ b. cond b (then (in_line (n + 1) (declaration (letter r) d (placed (behind (letter r)) (fields r)))) (λ more. declarations more (letter r) (n + 1) (map line_text rs))) (Ok (record { declared = d; line = n; rest = line_text r ∷ map line_text rs }))) t;
    rest = r ∷ rs;
    left = refl;
    valid = (omega arith, allowed, v);
    means = refl;
    fit = fit;
  }

declared_read : (d : Declared) (last : Letter) (n : ℕ) (rs : List Record) → ValidAfter (described d []) last rs → Fits d → ReadsDeclared d last n rs
declared_read d last n [] v fit = record { to = record { declared = d; line = n; rest = [] }; reads = refl; rest = []; left = refl; valid = tt; means = refl; fit = fit }
declared_read d last n (atom name k ∷ rs) v fit =
    let a = atom_adds d name k 2 v.1 fit in
    let V : Described → Type 0 = λ x. ValidAfter x Atom rs in
    declared_on d last n (atom name k) rs v.0 v.1 refl a (declared_read a.more Atom (n + 1) rs (subst V (sym a.adds) v.2) a.fit)
declared_read d last n (row f g i ∷ rs) v fit =
    let a = row_adds d f g i 2 v.1 fit in
    let V : Described → Type 0 = λ x. ValidAfter x Row rs in
    declared_on d last n (row f g i) rs v.0 v.1 refl a (declared_read a.more Row (n + 1) rs (subst V (sym a.adds) v.2) a.fit)
declared_read d last n (line head body ∷ rs) v fit = declared_up_to d last n (line head body) rs v.0 v.1 refl refl v.2 fit
declared_read d last n (bar body ∷ rs) v fit = declared_up_to d last n (bar body) rs v.0 v.1 refl refl v.2 fit

-- LINES AND BARS

pub record ReadsRuled (d : Declared) (rules : List RuleOf) (n : ℕ) (rs : List Record) : Type 0 where
  pub all : List RuleOf
  pub reads : ruled d rules n (map line_text rs) ≡ Ok all
  pub means : described d all ≡ meant_after (described d rules) rs

ruled_read : (d : Declared) (rules : List RuleOf) (n : ℕ) (last : Letter) (rs : List Record) → 2 ≤ rank_of last → ValidAfter (described d rules) last rs → Fits d → 0 < length d.levels
    → ReadsRuled d rules n rs
ruled_read d rules n last [] two v fit some = record { all = rules; reads = refl; means = refl }
ruled_read d rules n last (r ∷ rs) two v fit some =
    let l = letter r in
    let rank = v.0 in
    let up : 2 ≤ rank_of l = omega arith in
    let there = placed 0 (letter_text l ∷ fields r) in
    let e = enters d rules (n + 1) fit some r (behind l) up v.1 in
    let on : List Field → Letter → Result (List RuleOf) Located = λ fs a. then (entering d rules (n + 1) a (tail fs)) (λ rule. ruled d (rules ++ rule ∷ []) (n + 1) (map line_text rs)) in
    let V : Described → Type 0 = λ x. ValidAfter x l rs in
    let ih = ruled_read d (rules ++ e.rule ∷ []) (n + 1) l rs up (subst V (sym e.adds) v.2) fit some in
    record {
      all = ih.all;
      reads = ap (λ fs. then (in_line (n + 1) (opening Rule fs)) (on fs)) (fields_back (described d rules) r v.1)
          ∙ ap (λ o. then (in_line (n + 1) o) (on there)) (opening_read Rule l (fields r) up)
          ∙ ap (λ x. then x (λ rule. ruled d (rules ++ rule ∷ []) (n + 1) (map line_text rs))) e.reads
          ∙ ih.reads;
      means = ih.means ∙ ap (λ x. meant_after x rs) e.adds;
    }

-- lines and bars leave levels and rows as they are
lines_keep : (x : Described) (last : Letter) (rs : List Record) → 2 ≤ rank_of last → ValidAfter x last rs → ((meant_after x rs).levels ≡ x.levels) × ((meant_after x rs).rows ≡ x.rows)
lines_keep x last [] two v = (refl, refl)
lines_keep x last (atom name k ∷ rs) two v = let rank = v.0 in absurd (omega arith)
lines_keep x last (row f g i ∷ rs) two v = let rank = v.0 in absurd (omega arith)
lines_keep x last (line head body ∷ rs) two v = lines_keep (with_record x (line head body)) Rule rs (omega arith) v.2
lines_keep x last (bar body ∷ rs) two v = lines_keep (with_record x (bar body)) Bar rs (omega arith) v.2

-- THE WHOLE TEXT

pub rendered_is_accepted : RenderedIsAccepted
rendered_is_accepted rs valid short =
    let text = rendered rs in
    let w : is_whole text ≡ true = and_from (leb (length text) 65536) (ended text) (le-leb (length text) 65536 short) (ended_unlines (map line_text rs)) in
    let one = declared_read none_declared Atom 0 rs valid.0 fitted_none in
    let p = one.to in
    let d = p.declared in
    let keeps = lines_keep (described d []) Rule one.rest (omega arith) one.valid in
    let levels : (meant rs).levels ≡ d.levels = ap (λ x. x.levels) one.means ∙ keeps.0 in
    let rows : (meant rs).rows ≡ d.rows = ap (λ x. x.rows) one.means ∙ keeps.1 in
    let some : 0 < length d.levels = let s = valid.1.0 in let e = ap length levels in omega arith in
    let R : List ℕ → Type 0 = λ ls. RowsBelow ls (meant rs).rows in
    let below : RowsBelow d.levels d.rows = subst (RowsBelow d.levels) rows (subst R levels valid.1.1) in
    let two = ruled_read d [] p.line Rule one.rest (omega arith) one.valid one.fit some in
    let make : List RuleOf → Result Described Located = λ rules. Ok (described d rules) in
    let lays : laid d ≡ Ok tt = fit_laid d.names d.levels d.rows d.outs one.fit some below in
    let rules : ruled d [] p.line p.rest ≡ Ok two.all = ap (ruled d [] p.line) one.left ∙ two.reads in
    ap (λ t. cond t (then (declarations none_declared Atom 0 (lines_of text)) on_sheet) (Err (record { number = 27; line = 0; byte = 0 }))) w
    ∙ ap (λ ls. then (declarations none_declared Atom 0 ls) on_sheet) (lines_back (described none_declared []) Atom rs valid.0)
    ∙ ap (λ x. then x on_sheet) one.reads
    ∙ ap (λ x. then x (λ _. then (ruled d [] p.line p.rest) make)) lays
    ∙ ap (λ x. then x make) rules
    ∙ ap Ok (two.means ∙ sym one.means)
