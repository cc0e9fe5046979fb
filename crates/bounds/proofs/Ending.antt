-- How far the rounds have come, and where they end.
use Rattle.std.proofs.Common.{◌≡◌, ℕ, ◌+◌, ◌*◌, ◌≤◌, Bool, true, false, cond, not, ◌&&◌, T, Some, None, Option, sym, refl, ap, ◌∙◌, subst, inl, inr, arith}
use Rattle.std.proofs.lemmas.Bool.{and_parts, and_from, both_ways}
use Rattle.semantics.specs.declared.Side.{Side}
use Rattle.semantics.specs.declared.Side.TheVariants.{Present, Absent}
use Rattle.semantics.specs.Sets.{has, same}
use Rattle.semantics.specs.Plans.{Program, WellFormed}
use Rattle.semantics.specs.Alternating.{Pair, Marks, is_present, is_absent, narrowed, widest, contradictory, Reached, start, round, room, Last}
use Rattle.semantics.proofs.Booleans.{count_small}
use Rattle.semantics.proofs.Bytes.{has_below, tabled_canonical, tabled_has, tabled_passes}
use Rattle.semantics.proofs.Bounds.{calm_from}
use Rattle.semantics.proofs.Narrowing.{rounds_fall}
use Rattle.bounds.specs.declared.round.RoundEnd.{RoundEnd}
use Rattle.bounds.specs.declared.round.RoundEnd.TheVariants.{Contradiction, Settled, GoingOn}
use Rattle.bounds.specs.Ends.{ending}
use Rattle.bounds.proofs.Sames.{same_decides}
use Rattle.bounds.proofs.Rounding.{pair_same}

-- what an end says of the two tests that it was found by
abbrev end_by : Bool → Bool → RoundEnd
end_by clash still = cond clash Contradiction (cond still Settled GoingOn)

clash_from : (clash still : Bool) → Contradiction ≡ end_by clash still → clash ≡ true
clash_from true still e = refl
clash_from false true e = let z : ◌≡◌ {A = ℕ} 0 1 = cc in absurd (omega arith)
clash_from false false e = let z : ◌≡◌ {A = ℕ} 0 1 = cc in absurd (omega arith)

still_from : (clash still : Bool) → Settled ≡ end_by clash still → still ≡ true
still_from true still e = let z : ◌≡◌ {A = ℕ} 0 1 = cc in absurd (omega arith)
still_from false true e = refl
still_from false false e = let z : ◌≡◌ {A = ℕ} 0 1 = cc in absurd (omega arith)

going_from : (clash still : Bool) → GoingOn ≡ end_by clash still → (clash ≡ false) × (still ≡ false)
going_from true still e = let z : ◌≡◌ {A = ℕ} 0 1 = cc in absurd (omega arith)
going_from false true e = let z : ◌≡◌ {A = ℕ} 0 1 = cc in absurd (omega arith)
going_from false false e = (refl, refl)

abbrev alike : Pair → Pair → Bool
alike q r = same q.sure r.sure && same q.possible r.possible

alike_same : (q r : Pair) → alike q r ≡ true → q ≡ r
alike_same q r e =
    let parts = and_parts (same q.sure r.sure) (same q.possible r.possible) e in
    pair_same ((same_decides q.sure r.sure).0 parts.0) ((same_decides q.possible r.possible).0 parts.1)

same_alike : (q r : Pair) → q ≡ r → alike q r ≡ true
same_alike q r e = and_from (same q.sure r.sure) (same q.possible r.possible) ((same_decides q.sure r.sure).1 (ap (λ x. x.sure) e)) ((same_decides q.possible r.possible).1 (ap (λ x. x.possible) e))

-- after so many rounds that went on, there is no contradiction, and each of them took some room
pub record Underway (p : Program) (marks : Marks) (turns : ℕ) (q : Pair) : Type 0 where
  pub reached : Reached p marks q
  pub calm : contradictory p q ≡ false
  pub left : room p q + turns ≤ p.atoms + p.atoms

-- an atom is not held to both sides
one_side : (mark : Option Side) → T (is_present mark) → T (not (is_absent mark))
one_side None h = absurd h
one_side (Some Present) h = tt
one_side (Some Absent) h = absurd h

module _ (p : Program) (marks : Marks) where
  widest_calm : contradictory p (widest p marks) ≡ false
  widest_calm =
      calm_from p (widest p marks)
      (λ a h. tabled_has (λ a. not (is_absent (marks a))) p.atoms a (has_below (tabled_canonical (λ a. is_present (marks a)) p.atoms) a h)
      (one_side (marks a) (tabled_passes (λ a. is_present (marks a)) p.atoms a h)))

  pub begun : Underway p marks 0 (widest p marks)
  begun = record {
    reached = start;
    calm = widest_calm;
    left = omega (arith, count_small (λ a. not (has (widest p marks).sure a)) p.atoms, count_small (has (widest p marks).possible) p.atoms);
  }

  -- one round more
  module _ (turns : ℕ) (q r : Pair) (u : Underway p marks turns q) (step : r ≡ narrowed p marks q) where
    next : Reached p marks r
    next = subst (Reached p marks) (sym step) (round u.calm u.reached)

    pub ends_in_contradiction : Contradiction ≡ ending p.atoms q r → Last p marks r
    ends_in_contradiction e = record { reached = next; final = inl (clash_from (contradictory p r) (alike q r) e) }

    pub ends_unchanged : Settled ≡ ending p.atoms q r → Last p marks r
    ends_unchanged e =
        let still = alike_same q r (still_from (contradictory p r) (alike q r) e) in
        subst (Last p marks) still (record { reached = u.reached; final = inr (sym step ∙ sym still) })

    pub goes_on : WellFormed p → GoingOn ≡ ending p.atoms q r → Underway p marks (turns + 1) r
    goes_on ok e =
        let tests = going_from (contradictory p r) (alike q r) e in
        elim (rounds_fall p ok marks u.reached u.calm) [
          | inl still ↦ absurd (both_ways (alike q r) tests.1 (same_alike q r (sym (step ∙ still))))
          | inr less ↦ record { reached = next; calm = tests.0; left = omega (arith, u.left, ap (room p) step) }
        ]

  pub never_more : (turns : ℕ) (q : Pair) → Underway p marks turns q → 2 * p.atoms + 1 ≤ turns → ⊥
  never_more turns q u l = omega (arith, u.left)
