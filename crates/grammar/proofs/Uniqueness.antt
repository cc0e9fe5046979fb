-- A text has one reading.
use Rattle.std.proofs.Common.{◌≡◌, ℕ, true, List, [], ◌∷◌, map, Some, sym, refl, ap, ◌∙◌, arith}
use Rattle.fields.specs.declared.field.Letter.{Letter}
use Rattle.fields.specs.declared.field.Letter.TheVariants.{Atom}
use Rattle.fields.specs.Pieces.{fields_of, lines_of}
use Rattle.fields.specs.Words.{is_name, level_of, side_of, name_of}
use Rattle.grammar.specs.Texts.{Described}
use Rattle.grammar.specs.Format.{Named, Record, atom, row, line, bar, digits, literal_text, letter_text, letter, fields, line_text, AllKnown, Allowed, with_record, none_described, ValidAfter, ReadingsAreOne}
use Rattle.grammar.proofs.Wording.{level_read, name_read, side_read}
use Rattle.grammar.proofs.Splitting.{fields_commas}
use Rattle.grammar.proofs.Rendering.{no_comma, fields_free, lines_back}

same_named : (a b : Named) → is_name a.name ≡ true → is_name b.name ≡ true → literal_text a ≡ literal_text b → a ≡ b
same_named a b h k e =
    let sides : a.side ≡ b.side = sym (side_read a.side a.name h) ∙ ap side_of e ∙ side_read b.side b.name k in
    let names : a.name ≡ b.name = sym (name_read a.side a.name h) ∙ ap name_of e ∙ name_read b.side b.name k in
    let step : ◌≡◌ {A = Named} (record { side = a.side; name = a.name }) (record { side = b.side; name = a.name }) = ap (λ s. record { side = s; name = a.name }) sides in
    let then : ◌≡◌ {A = Named} (record { side = b.side; name = a.name }) (record { side = b.side; name = b.name }) = ap (λ n. record { side = b.side; name = n }) names in
    step ∙ then

same_body : (names names' : List (List ℕ)) (xs ys : List Named) → AllKnown names xs → AllKnown names' ys → map literal_text xs ≡ map literal_text ys → xs ≡ ys
same_body names names' [] [] h k e = refl
same_body names names' [] (b ∷ ys) h k e = let z : ◌≡◌ {A = ℕ} 0 1 = cc in absurd (omega arith)
same_body names names' (a ∷ xs) [] h k e = let z : ◌≡◌ {A = ℕ} 0 1 = cc in absurd (omega arith)
same_body names names' (a ∷ xs) (b ∷ ys) h k e =
    let first : literal_text a ≡ literal_text b = cc in
    let rest : map literal_text xs ≡ map literal_text ys = cc in
    let same = same_named a b h.0.0 k.0.0 first in
    let ih = same_body names names' xs ys h.1 k.1 rest in
    ap (λ x. x ∷ xs) same ∙ ap (λ r. b ∷ r) ih

same_record : (x y : Described) (r s : Record) → Allowed x r → Allowed y s
    → letter_text (letter r) ∷ fields r ≡ letter_text (letter s) ∷ fields s → r ≡ s
same_record x y (atom name level) (atom n' l') h k e =
    let named : name ≡ n' = cc in
    let written : digits level ≡ digits l' = cc in
    let read : Some level ≡ Some l' = sym (level_read level h.2) ∙ ap level_of written ∙ level_read l' k.2 in
    let leveled : level ≡ l' = cc in
    cc
same_record x y (atom name level) (row f' s' o') h k e = let z : ◌≡◌ {A = ℕ} 97 112 = cc in absurd (omega arith)
same_record x y (atom name level) (line h' b') h k e = let z : ◌≡◌ {A = ℕ} 97 114 = cc in absurd (omega arith)
same_record x y (atom name level) (bar b') h k e = let z : ◌≡◌ {A = ℕ} 97 98 = cc in absurd (omega arith)
same_record x y (row first second out) (atom n' l') h k e = let z : ◌≡◌ {A = ℕ} 112 97 = cc in absurd (omega arith)
same_record x y (row first second out) (row f' s' o') h k e = cc
same_record x y (row first second out) (line h' b') h k e = let z : ◌≡◌ {A = ℕ} 112 114 = cc in absurd (omega arith)
same_record x y (row first second out) (bar b') h k e = let z : ◌≡◌ {A = ℕ} 112 98 = cc in absurd (omega arith)
same_record x y (line head body) (atom n' l') h k e = let z : ◌≡◌ {A = ℕ} 114 97 = cc in absurd (omega arith)
same_record x y (line head body) (row f' s' o') h k e = let z : ◌≡◌ {A = ℕ} 114 112 = cc in absurd (omega arith)
same_record x y (line head body) (line h' b') h k e =
    let headed : head ≡ h' = cc in
    let texts : map literal_text body ≡ map literal_text b' = cc in
    let same = same_body x.names y.names body b' h.1 k.1 texts in
    ap (λ x. line x body) headed ∙ ap (line h') same
same_record x y (line head body) (bar b') h k e = let z : ◌≡◌ {A = ℕ} 114 98 = cc in absurd (omega arith)
same_record x y (bar body) (atom n' l') h k e = let z : ◌≡◌ {A = ℕ} 98 97 = cc in absurd (omega arith)
same_record x y (bar body) (row f' s' o') h k e = let z : ◌≡◌ {A = ℕ} 98 112 = cc in absurd (omega arith)
same_record x y (bar body) (line h' b') h k e = let z : ◌≡◌ {A = ℕ} 98 114 = cc in absurd (omega arith)
same_record x y (bar body) (bar b') h k e =
    let texts : map literal_text body ≡ map literal_text b' = cc in
    ap bar (same_body x.names y.names body b' h.0 k.0 texts)

fields_again : (x : Described) (r : Record) → Allowed x r → fields_of (line_text r) ≡ letter_text (letter r) ∷ fields r
fields_again x r h = fields_commas (letter_text (letter r)) (fields r) (no_comma (letter r), fields_free 44 x r (omega arith) h)

same_records : (x y : Described) (last last' : Letter) (rs ss : List Record) → ValidAfter x last rs → ValidAfter y last' ss → map line_text rs ≡ map line_text ss → rs ≡ ss
same_records x y last last' [] [] h k e = refl
same_records x y last last' [] (s ∷ ss) h k e = let z : ◌≡◌ {A = ℕ} 0 1 = cc in absurd (omega arith)
same_records x y last last' (r ∷ rs) [] h k e = let z : ◌≡◌ {A = ℕ} 0 1 = cc in absurd (omega arith)
same_records x y last last' (r ∷ rs) (s ∷ ss) h k e =
    let first : line_text r ≡ line_text s = cc in
    let rest : map line_text rs ≡ map line_text ss = cc in
    let texts = sym (fields_again x r h.1) ∙ ap fields_of first ∙ fields_again y s k.1 in
    let same = same_record x y r s h.1 k.1 texts in
    let ih = same_records (with_record x r) (with_record y s) (letter r) (letter s) rs ss h.2 k.2 rest in
    ap (λ z. z ∷ rs) same ∙ ap (λ zs. s ∷ zs) ih

pub readings_are_one : ReadingsAreOne
readings_are_one rs ss h k e =
    same_records none_described none_described Atom Atom rs ss h.0 k.0
    (sym (lines_back none_described Atom rs h.0) ∙ ap lines_of e ∙ lines_back none_described Atom ss k.0)
