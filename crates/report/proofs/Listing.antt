-- The lines that a text's listing wrote out.
use Rattle.std.proofs.Common.{◌≡◌, ℕ, ◌+◌, List, [], ◌∷◌, ◌++◌, length, get_or, take, inl, inr, Some, None, Ok, Err, Option, refl, sym, ap, ◌∙◌, subst, append-nil, arith, Bor}
use Rattle.std.specs.List.{concat}
use Rattle.std.specs.Io.KnownBytes.{Appends}
use Rattle.std.proofs.KnownBytes.{Appends-trans}
use Rattle.std.proofs.lemmas.List.{take_more, take_all}
use Rattle.std.proofs.lemmas.List.Folds.{concat-append}
use Rattle.faults.specs.declared.Fault.{Fault}
use Rattle.records.specs.declared.refusal.Refused.{Refused}
use Rattle.grammar.specs.Texts.{Described, read_text}
use Rattle.report.specs.declared.lister.Lister.{Lister}
use Rattle.report.specs.declared.stop.Stop.TheVariants as stop
use Rattle.report.specs.Printouts.{printout}
use Rattle.report.specs.Progress.{PrintedSoFar, Prints, MovesOn, lines_out}
use Rattle.declarations.specs.Shown.{no_memory}
use Rattle.report.specs.Lists.{ListsLines, Before}
use Rattle.report.proofs.Printing.{lines_are}

-- the text is accepted, and the output grew by the lines that its lister handed out
abbrev pub ListedSoFar : List ℕ → Option (List ℕ) → Option (List ℕ) → Lister → Type 0
ListedSoFar text old out x =
    (d : Described) × (read_text text ≡ Ok d) × PrintedSoFar d (lines_out x) x × Appends old out (concat (take (lines_out x) (printout d)))

module _ (text : List ℕ) (old out : Option (List ℕ)) (x : Lister) (so_far : ListedSoFar text old out x) where
  abbrev d : Described
  d = so_far.0

  abbrev k : ℕ
  k = lines_out x

  -- one more line
  module _ (y : Lister) (line : Bor (List ℕ)) (next : Prints d k (Ok (Some line))) (moved : MovesOn x (Ok (Some line)) y) where
    one_out : lines_out y ≡ k + 1
    one_out = lines_are d (k + 1) y (moved d k so_far.2)

    pub one_more : (new : Option (List ℕ)) → Appends out new line.now → ListedSoFar text old new y
    one_more new written =
        let lines = printout d in
        let joined : concat (take (k + 1) lines) ≡ concat (take k lines) ++ line.now =
        ap concat (take_more lines k [] next.0) ∙ concat-append (take k lines) (get_or lines k [] ∷ []) ∙ ap (λ l. concat (take k lines) ++ l) (append-nil (get_or lines k []) ∙ sym next.1) in (
          d,
          so_far.1,
          subst (λ i. PrintedSoFar d i y) (sym one_out) (moved d k so_far.2),
          subst (λ i. Appends old new (concat (take i lines))) (sym one_out) (subst (Appends old new) (sym joined) (Appends-trans old out new _ line.now so_far.3 written)),
        )

  -- the whole printout
  module _ (at_end : length (printout d) ≡ k) where
    all_out : take k (printout d) ≡ printout d
    all_out = take_all k (printout d) (omega (arith, at_end))

    pub whole : Appends old out (concat (printout d))
    whole = subst (λ lines. Appends old out (concat lines)) all_out so_far.3

  pub ends : Prints d k (Ok None) → ListsLines text old out (Ok tt)
  ends end = (d, so_far.1, end.1, whole (sym end.0))

  -- the printout is cut short
  pub breaks_off : (f : Fault) → Prints d k (Err f) → ListsLines text old out (Err (stop.Refused (record { fault = f; line = 0; byte = 0 })))
  breaks_off f cut =
      let refused : Fault → Refused = λ g. record { fault = g; line = 0; byte = 0 } in
      elim cut [
        | inl h ↦ (printout d, inr (d, so_far.1, inl (ap refused h.0, refl, h.2)), whole (sym h.1))
        | inr m ↦ (take k (printout d), inr (d, so_far.1, inr (ap refused m, k, refl)), so_far.3)
      ]

-- what comes before a fault may come before want of memory as well
pub before_no_memory : (text : List ℕ) (lines : List (List ℕ)) (e : Refused) → Before text lines e → Before text lines no_memory
before_no_memory text lines e (inl none) = inl (none.0, inr refl)
before_no_memory text lines e (inr (d, read, inl cut)) =
    inr (d, read, inr (refl, length (printout d), cut.1 ∙ sym (take_all (length (printout d)) (printout d) (omega arith))))
before_no_memory text lines e (inr (d, read, inr ended)) = inr (d, read, inr (refl, ended.1, ended.2))
