-- Lines and bars one by one.
use Rattle.std.proofs.Common.{◌≡◌, ℕ, ◌+◌, ◌≤◌, Bool, true, false, cond, ltb, List, [], ◌∷◌, ◌++◌, Some, None, Ok, Err, Option, Result, sym, refl, ap, ◌∙◌, inl, inr, ⊎_elim, arith}
use Rattle.std.proofs.lemmas.Bool.{ltb-false}
use Rattle.faults.specs.declared.Fault.TheVariants.{OutOfOrder, Memory}
use Rattle.semantics.specs.Rules.{Rule as Line}
use Rattle.modules.specs.declared.rows.PairTable.{PairTable}
use Rattle.sheet.specs.declared.paper.Sheet.{Sheet}
use Rattle.fields.specs.declared.field.Letter.{Letter}
use Rattle.fields.specs.declared.field.Letter.TheVariants.{Atom, Row, Rule, Bar}
use Rattle.records.specs.declared.refusal.Refusal.{Refusal}
use Rattle.records.specs.declared.refusal.Refused.{Refused}
use Rattle.fields.specs.Pieces.{Field, fields_from}
use Rattle.records.specs.Reading.{then, at_byte, rank_of, ordered, opening, tail}
use Rattle.fields.specs.Words.{letter_of}
use Rattle.declarations.specs.declared.reader.Reader.{Reader}
use Rattle.declarations.specs.Declaring.{Located, in_line, Declared}
use Rattle.grammar.specs.Entering.{entering, ruled}
use Rattle.text.specs.Sheets.{Holds, Enters, EntersAll}
use Rattle.declarations.specs.Shown.{Opening, opened, to_come, located, no_memory, RefusedBy, PlacedIn}

-- how far the lines have come: the rules so far, and the same answer in the end
pub record Going (d : Declared) (answer : Result (List Line) Located) (reader : Reader) (sheet : Sheet PairTable) : Type 0 where
  pub rules : List Line
  pub same : ruled d rules reader.line (to_come reader) ≡ answer
  pub ranked : rank_of reader.last ≡ 2
  pub holds : Holds d.rows d.levels rules sheet

-- the order asks only for the rank of the last letter
ordered_rank : (a b : Letter) (o : Option Letter) → rank_of a ≡ rank_of b → ordered a o ≡ ordered b o
ordered_rank a b None e = refl
ordered_rank a b (Some l) e = ap (λ k. cond (ltb (rank_of l) k) (Err (at_byte OutOfOrder 0)) (Ok l)) e

opening_rank : (a b : Letter) (fs : List Field) → rank_of a ≡ rank_of b → opening a fs ≡ opening b fs
opening_rank a b [] e = ordered_rank a b None e
opening_rank a b (f ∷ fs) e = ordered_rank a b (letter_of f.bytes) e

-- one turn: there is no line left, or one is entered
abbrev pub turn : Declared → List Line → Option Opening → Result (List Line) Located
turn d rules None = Ok rules
turn d rules (Some o) = then (entering d rules o.line o.letter o.fields) (λ rule. ruled d (rules ++ rule ∷ []) o.line o.rest)

pub by_turns : (d : Declared) (rules : List Line) (last : Letter) (n : ℕ) (ls : List (List ℕ)) → rank_of last ≡ 2
    → ruled d rules n ls ≡ then (opened last n ls) (turn d rules)
by_turns d rules last n [] e = refl
by_turns d rules last n (l ∷ ls) e =
    ap (λ r. then (in_line (n + 1) r) (λ letter. then (entering d rules (n + 1) letter (tail (fields_from 0 l))) (λ rule. ruled d (rules ++ rule ∷ []) (n + 1) ls)))
    (opening_rank Rule last (fields_from 0 l) (sym e))
    ∙ go (opening last (fields_from 0 l))
  where
    go : (r : Result Letter Refusal)
        → then (in_line (n + 1) r) (λ letter. then (entering d rules (n + 1) letter (tail (fields_from 0 l))) (λ rule. ruled d (rules ++ rule ∷ []) (n + 1) ls))
        ≡ then (then (in_line (n + 1) r) (λ letter. Ok (Some (record { letter = letter; fields = tail (fields_from 0 l); line = n + 1; rest = ls })))) (turn d rules)
    go (Ok letter) = refl
    go (Err refusal) = refl

top_rank : (l : Letter) → rank_of l ≤ 2
top_rank Atom = omega arith
top_rank Row = omega arith
top_rank Rule = omega arith
top_rank Bar = omega arith

ordered_kept : (last l : Letter) (o : Option Letter) → ordered last o ≡ Ok l → rank_of last ≡ 2 → rank_of l ≡ 2
ordered_kept last l None h e = let z : ◌≡◌ {A = ℕ} 0 1 = cc in absurd (omega arith)
ordered_kept last l (Some m) h e = go (ltb (rank_of m) (rank_of last)) refl h
  where
    go : (t : Bool) → ltb (rank_of m) (rank_of last) ≡ t → cond t (Err (at_byte OutOfOrder 0)) (Ok m) ≡ Ok l → rank_of l ≡ 2
    go true t h = let z : ◌≡◌ {A = ℕ} 0 1 = cc in absurd (omega arith)
    go false t h =
        let same : m ≡ l = cc in
        let up = ltb-false (rank_of m) (rank_of last) t in
        let top = top_rank m in
        let here : rank_of m ≡ 2 = omega arith in
        sym (ap rank_of same) ∙ here

opening_kept : (last l : Letter) (fs : List Field) → opening last fs ≡ Ok l → rank_of last ≡ 2 → rank_of l ≡ 2
opening_kept last l [] h e = ordered_kept last l None h e
opening_kept last l (f ∷ fs) h e = ordered_kept last l (letter_of f.bytes) h e

-- the letter after a line or a bar is that of one again
pub after_opening : (last : Letter) (n : ℕ) (ls : List (List ℕ)) (o : Opening) → rank_of last ≡ 2 → Ok (Some o) ≡ opened last n ls → rank_of o.letter ≡ 2
after_opening last n [] o e h = let z : ◌≡◌ {A = ℕ} 0 1 = cc in absurd (omega arith)
after_opening last n (l ∷ ls) o e h = go (opening last (fields_from 0 l)) refl h
  where
    letter_in : Option Opening → Letter
    letter_in None = Bar
    letter_in (Some x) = x.letter

    go : (r : Result Letter Refusal) → opening last (fields_from 0 l) ≡ r
        → Ok (Some o) ≡ then (in_line (n + 1) r) (λ letter. Ok (Some (record { letter = letter; fields = tail (fields_from 0 l); line = n + 1; rest = ls })))
        → rank_of o.letter ≡ 2
    go (Ok letter) r h =
        let same : Some o ≡ Some (record { letter = letter; fields = tail (fields_from 0 l); line = n + 1; rest = ls }) = cc in
        ap (λ x. rank_of (letter_in x)) same ∙ opening_kept last letter (fields_from 0 l) r e
    go (Err refusal) r h = let z : ◌≡◌ {A = ℕ} 0 1 = cc in absurd (omega arith)

-- THE WAYS OF A TURN

module _ (d : Declared) (answer : Result (List Line) Located) (reader : Reader) (sheet : Sheet PairTable) (going : Going d answer reader sheet) where
  -- the answer by the next record
  next_answer : answer ≡ then (opened reader.last reader.line (to_come reader)) (turn d going.rules)
  next_answer = sym going.same ∙ by_turns d going.rules reader.last reader.line (to_come reader) going.ranked

  pub none_left : Ok None ≡ opened reader.last reader.line (to_come reader) → EntersAll d answer sheet (Ok tt)
  none_left e = (going.rules, next_answer ∙ sym (ap (λ o. then o (turn d going.rules)) e), going.holds)

  pub not_opened : (x : Refused) → Err (located x) ≡ opened reader.last reader.line (to_come reader) → RefusedBy answer x
  not_opened x e = inl (next_answer ∙ sym (ap (λ o. then o (turn d going.rules)) e))

  module _ (o : Opening) (e : Ok (Some o) ≡ opened reader.last reader.line (to_come reader)) where
    opened_answer : answer ≡ turn d going.rules (Some o)
    opened_answer = next_answer ∙ sym (ap (λ x. then x (turn d going.rules)) e)

    pub goes_on : (next : Reader) (after : Sheet PairTable) → next.last ≡ o.letter → next.line ≡ o.line → to_come next ≡ o.rest
        → Enters d going.rules o.line o.letter o.fields after (Ok tt) → Going d answer next after
    goes_on next after letter line rest entered =
        let more = going.rules ++ entered.0 ∷ [] in
        let on : turn d going.rules (Some o) ≡ ruled d more o.line o.rest = ap (λ r. then r (λ rule. ruled d (going.rules ++ rule ∷ []) o.line o.rest)) entered.1 in
        record {
          rules = more;
          same = ap (λ k. ruled d more k (to_come next)) line ∙ ap (ruled d more o.line) rest ∙ sym (opened_answer ∙ on);
          ranked = ap rank_of letter ∙ after_opening reader.last reader.line (to_come reader) o going.ranked e;
          holds = entered.2;
        }

    pub not_entered : (after : Sheet PairTable) (refusal : Refusal) (x : Refused) → Enters d going.rules o.line o.letter o.fields after (Err refusal)
        → PlacedIn o.line refusal x → (refusal.fault ≡ Memory → x ≡ no_memory) → RefusedBy answer x
    not_entered after refusal x entered placed memory =
        ⊎_elim
        (λ found.
        ⊎_elim
        (λ at. inl (opened_answer ∙ ap (λ r. then r (λ rule. ruled d (going.rules ++ rule ∷ []) o.line o.rest)) found ∙ ap Err (sym at)))
        (λ none. inr none)
        placed)
        (λ none. inr (memory none))
        entered
