-- Names and literals: what reading makes of them is what they mean.
use Rattle.std.proofs.Common.{◌≡◌, ℕ, ◌+◌, ◌<◌, Bool, true, false, cond, List, [], ◌∷◌, map, length, is_some, Some, None, Ok, Err, Option, Result, sym, refl, ap, ◌∙◌, arith}
use Rattle.std.specs.Option.{ok_or}
use Rattle.std.specs.Str.{bytes_eq}
use Rattle.faults.specs.declared.Fault.TheVariants.{MalformedName, UnknownName}
use Rattle.semantics.specs.declared.Head.TheVariants as heads
use Rattle.fields.specs.Pieces.{Field, placed}
use Rattle.fields.specs.Words.{is_name, side_of, name_of}
use Rattle.fields.specs.Places.{place_from, place_of}
use Rattle.records.specs.declared.body.Placed.{Placed}
use Rattle.records.specs.declared.refusal.Refusal.{Refusal}
use Rattle.records.specs.Reading.{then, at_byte, known, literal_in, literals}
use Rattle.grammar.specs.Entering.{literals_of}
use Rattle.grammar.specs.Format.{Named, literal_text, place, literal_named, Known, AllKnown}
use Rattle.grammar.proofs.Wording.{then_ok, cond_ok, ok_or_ok, some_of, literal_written, name_read, side_read}
use Rattle.grammar.proofs.Entering.{LiteralsFit}

-- PLACES

at_place : (o : Option ℕ) (a : ℕ) → o ≡ Some a → elim o [ Some b ↦ b | None ↦ 0 ] ≡ a
at_place None a e = let z : ◌≡◌ {A = ℕ} 0 1 = cc in absurd (omega arith)
at_place (Some b) a e = let same : b ≡ a = cc in same

pub placed_at : (names : List (List ℕ)) (name : List ℕ) (a : ℕ) → place_of names name ≡ Some a → place names name ≡ a
placed_at names name a e = at_place (place_of names name) a e

pub known_place : (names : List (List ℕ)) (name : List ℕ) → Known names name → place_of names name ≡ Some (place names name)
known_place names name k = let s = some_of (place_of names name) k.1 in s.1 ∙ ap Some (sym (placed_at names name s.0 s.1))

place_below : (k : ℕ) (names : List (List ℕ)) (name : List ℕ) (a : ℕ) → place_from k names name ≡ Some a → a < k + length names
place_below k [] name a e = let z : ◌≡◌ {A = ℕ} 0 1 = cc in absurd (omega arith)
place_below k (other ∷ names) name a e = go (bytes_eq other name) e (place_below (k + 1) names name a)
  where
    go : (t : Bool) → cond t (Some k) (place_from (k + 1) names name) ≡ Some a → (place_from (k + 1) names name ≡ Some a → a < k + 1 + length names) → a < k + length (other ∷ names)
    go true e ih = let same : k ≡ a = cc in omega arith
    go false e ih = let h = ih e in omega arith

pub known_below : (names : List (List ℕ)) (name : List ℕ) → Known names name → place names name < length names
known_below names name k = let h = place_below 0 names name (place names name) (known_place names name k) in omega arith

-- A NAME

pub known_ok : (names : List (List ℕ)) (f : Field) (a : ℕ) → known names f ≡ Ok a → Known names f.bytes × (a ≡ place names f.bytes)
known_ok names f a h =
    let p = cond_ok (is_name f.bytes) (ok_or (place_of names f.bytes) (at_byte UnknownName f.at)) (at_byte MalformedName f.at) a h in
    let s = ok_or_ok (place_of names f.bytes) (at_byte UnknownName f.at) a p.1 in
    ((p.0, ap is_some s), sym (placed_at names f.bytes a s))

pub known_read : (names : List (List ℕ)) (f : Field) → Known names f.bytes → known names f ≡ Ok (place names f.bytes)
known_read names f k =
    ap (λ t. cond t (ok_or (place_of names f.bytes) (at_byte UnknownName f.at)) (Err (at_byte MalformedName f.at))) k.0
    ∙ ap (λ o. ok_or o (at_byte UnknownName f.at)) (known_place names f.bytes k)

-- LITERALS

abbrev made : List ℕ → ℕ → ℕ → Result Placed Refusal
made f k a = Ok (record { literal = record { atom = a; side = side_of f }; byte = k })

abbrev added : List (List ℕ) → List Field → Placed → Result (List Placed) Refusal
added names rest l = then (literals names rest) (λ ls. Ok (l ∷ ls))

pub literals_written : (names : List (List ℕ)) (k : ℕ) (fs : List (List ℕ)) (all : List Placed) → literals names (placed k fs) ≡ Ok all
    → (body : List Named) × (fs ≡ map literal_text body) × AllKnown names body × (literals_of all ≡ map (literal_named names) body)
literals_written names k [] all h = let none : [] ≡ all = cc in ([], refl, tt, sym (ap literals_of none))
literals_written names k (f ∷ fs) all h =
    let bare : Field = record { bytes = name_of f; at = k } in
    let rest = placed (k + length f + 1) fs in
    let p = then_ok (literal_in names (record { bytes = f; at = k })) (added names rest) all h in
    let l : Placed = p.0 in
    let q = then_ok (literals names rest) (λ ls. Ok (l ∷ ls)) all p.2 in
    let r = then_ok (known names bare) (made f k) l p.1 in
    let is_known = known_ok names bare r.0 r.1 in
    let named : Named = record { side = side_of f; name = name_of f } in
    let ih = literals_written names (k + length f + 1) fs q.0 q.1 in
    let whole : l ∷ q.0 ≡ all = let e = q.2 in cc in
    let here : record { literal = record { atom = r.0; side = side_of f }; byte = k } ≡ l = let e = r.2 in cc in
    let atom : literal_named names named ≡ l.literal = ap (λ a. record { atom = a; side = side_of f }) (sym is_known.1) ∙ ap (λ x. x.literal) here in (
      named ∷ ih.0,
      ap (λ x. x ∷ fs) (literal_written f is_known.0.0) ∙ ap (λ r. literal_text named ∷ r) ih.1,
      (is_known.0, ih.2),
      sym (ap literals_of whole) ∙ ap (λ x. x ∷ literals_of q.0) (sym atom) ∙ ap (λ r. literal_named names named ∷ r) ih.3,
    )

pub literals_read : (names : List (List ℕ)) (k : ℕ) (body : List Named) → AllKnown names body
    → (all : List Placed) × (literals names (placed k (map literal_text body)) ≡ Ok all) × (literals_of all ≡ map (literal_named names) body)
literals_read names k [] h = ([], refl, refl)
literals_read names k (b ∷ body) h =
    let f = literal_text b in
    let rest = placed (k + length f + 1) (map literal_text body) in
    let back : name_of f ≡ b.name = name_read b.side b.name h.0.0 in
    let is_known : Known names (name_of f) = rw back h.0 in
    let a = known_read names (record { bytes = name_of f; at = k }) is_known in
    let l : Placed = record { literal = record { atom = place names (name_of f); side = side_of f }; byte = k } in
    let ih = literals_read names (k + length f + 1) body h.1 in
    let atom : l.literal ≡ literal_named names b =
    ap (λ n. record { atom = place names n; side = side_of f }) back ∙ ap (λ s. record { atom = place names b.name; side = s }) (side_read b.side b.name h.0.0) in (
      l ∷ ih.0,
      ap (λ r. then (then r (made f k)) (added names rest)) a ∙ ap (λ r. then r (λ ls. Ok (l ∷ ls))) ih.1,
      ap (λ x. x ∷ literals_of ih.0) atom ∙ ap (λ r. literal_named names b ∷ r) ih.2,
    )

-- known literals are the sheet's
pub known_fit : (names : List (List ℕ)) (levels : List ℕ) (body : List Named) → length names ≡ length levels → AllKnown names body
    → LiteralsFit levels heads.Bar (map (literal_named names) body)
known_fit names levels [] e h = tt
known_fit names levels (b ∷ body) e h = let l = known_below names b.name h.0 in (omega arith, refl, known_fit names levels body e h.1)
