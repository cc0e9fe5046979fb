-- A stack of choices and the bounds that its marks lead to: what is left under it, at a contradiction, at a leaf and at a push.
use Rattle.std.proofs.Common.{◌≡◌, ℕ, ◌<◌, ◌≤◌, Bool, true, false, cond, not, ◌&&◌, ◌||◌, T, eqb, ltb, List, [], ◌∷◌, length, Some, None, Option, sym, refl, ap, ◌∙◌, subst, inl, inr, arith, T_not}
use lib.Dec.{not_T, eqb_refl}
use Rattle.std.specs.List.{AllByRecursion}
use Rattle.std.proofs.ByRecursion.{All-weaker, all_kept_by, kept_by_passes}
use Rattle.std.proofs.lemmas.Bool.{both_ways, eqb-true, ne_eqb}
use Rattle.semantics.specs.declared.Side.{Side}
use Rattle.semantics.specs.declared.Side.TheVariants.{Present, Absent}
use Rattle.semantics.specs.declared.Literal.{Literal}
use Rattle.semantics.specs.Sets.{has, ◌⊆◌, Canonical, AlikeBelow, Listed, count_below}
use Rattle.semantics.specs.Rules.{Rule, Least, derives, broken, is_bar, body_holds, literal_holds}
use Rattle.semantics.specs.Banks.{gives}
use Rattle.semantics.specs.Plans.{Program, WellFormed, Plan}
use Rattle.semantics.specs.Alternating.{Pair, Marks, marks_of, known, sure_at, possible_at, reachable, allowed, is_present, is_absent, settled, surely, possibly, surely_or_held, narrowed, contradictory, Reached, Agrees, Brackets}
use Rattle.semantics.specs.Search.{absent, agrees, under, todo, back, Free, BoundsUnder, surely_broken}
use Rattle.semantics.proofs.Booleans.{any_mono, and_mono, or_cases, or_left, or_right, and_left, and_right, and_from, decided, true_from, false_from, fails, holds, same_tests, each_from, count_small, count_grows}
use Rattle.semantics.proofs.Bytes.{tabled_has, tabled_passes, same_sets}
use Rattle.semantics.proofs.LeastModel.{closed_fewer, body_mono}
use Rattle.semantics.proofs.Members.{all_from_each, all_two, none_from_all}
use Rattle.semantics.proofs.Bounds.{output_more, reached_sound, calm_from, sure_least, possible_least}
use Rattle.semantics.proofs.Narrowing.{reached_marked, reached_canonical, consistent}
use Rattle.semantics.proofs.Choices.{push_keeps, leaf_found, leaf_missing, back_some}

-- a set that takes the chosen sides agrees with the marks
module _ (s : List ℕ) where
  agrees_one : (side : Side) (a : ℕ) → T (literal_holds s s side a) → (T (is_present (Some side)) → T (has s a)) × (T (is_absent (Some side)) → has s a ≡ false)
  agrees_one Present a h = (λ _. h, λ t. absurd t)
  agrees_one Absent a h = (λ t. absurd t, λ _. false_from (has s a) (T_not (has s a) h))

  pub agrees_marks : (cs : List Literal) → T (agrees cs s) → Agrees (marks_of cs) s
  agrees_marks [] h a = (λ t. absurd t, λ t. absurd t)
  agrees_marks (c ∷ cs) h a = go (eqb c.atom a) refl (agrees_marks cs (and_right (literal_holds s s c.side c.atom) (agrees cs s) h) a)
    where
      go : (b : Bool) → eqb c.atom a ≡ b → (T (is_present (marks_of cs a)) → T (has s a)) × (T (is_absent (marks_of cs a)) → has s a ≡ false) →
          (T (is_present (cond b (Some c.side) (marks_of cs a))) → T (has s a)) × (T (is_absent (cond b (Some c.side) (marks_of cs a))) → has s a ≡ false)
      go false e below = below
      go true e below = agrees_one c.side a (subst (λ i. T (literal_holds s s c.side i)) (eqb-true c.atom a e) (and_left (literal_holds s s c.side c.atom) (agrees cs s) h))

  -- and one that takes the marked sides takes the chosen ones
  marks_agree : (n : ℕ) (cs : List Literal) → Free n cs → ((a : ℕ) (side : Side) → a < n → marks_of cs a ≡ Some side → T (literal_holds s s side a)) → T (agrees cs s)
  marks_agree n [] free h = tt
  marks_agree n (c ∷ cs) free h =
      and_from (literal_holds s s c.side c.atom) (agrees cs s)
      (h c.atom c.side free.0 (ap (λ b. cond b (Some c.side) (marks_of cs c.atom)) (true_from (eqb c.atom c.atom) (eqb_refl c.atom))))
      (marks_agree n cs free.2 (λ a side l e. h a side l (ap (λ b. cond b (Some c.side) (marks_of cs a)) (ne_eqb c.atom a (λ same. apart a side e same)) ∙ e)))
    where
      apart : (a : ℕ) (side : Side) → marks_of cs a ≡ Some side → c.atom ≡ a → ⊥
      apart a side e same =
          let free : marks_of cs a ≡ None = subst (λ i. marks_of cs i ≡ None) same free.1 in
          let z : ◌≡◌ {A = ℕ} 0 1 = cc in omega arith

module _ (p : Program) (ok : WellFormed p) (marks : Marks) where
  module _ {q : Pair} (r : Reached p marks q) where
    held_sure : (a : ℕ) → a < p.atoms → T (is_present (marks a)) → T (has q.sure a)
    held_sure a l h = (reached_marked p ok marks r).more_sure a (tabled_has (λ a. is_present (marks a)) p.atoms a l h)

    barred_impossible : (a : ℕ) → T (is_absent (marks a)) → T (has q.possible a) → ⊥
    barred_impossible a b h = T_not (is_absent (marks a)) (tabled_passes (λ a. not (is_absent (marks a))) p.atoms a ((reached_marked p ok marks r).less_possible a h)) b

  -- bounds that meet and that a round leaves as they are: their set is stable
  module _ (q : Pair) (c : Canonical p.atoms q.sure) (low : q.sure ⊆ q.possible) (high : q.possible ⊆ q.sure) (still : narrowed p marks q ≡ q) where
    all_settled : (k : ℕ) → T (settled p q k)
    all_settled k =
        each_from (λ a. not (p.bank.reads k a) || known q a) p.atoms
        (λ a l. or_right (not (p.bank.reads k a)) (known q a)
        (elim (decided (has q.possible a)) [
          | inl t ↦ or_left (has q.sure a) (not (has q.possible a)) (high a t)
          | inr f ↦ or_right (has q.sure a) (not (has q.possible a)) f
        ]))

    gives_surely : (a : ℕ) → T (gives p.bank q.sure a) → T (surely p q a)
    gives_surely = output_more p.bank (λ k. p.bank.given k q.sure) (sure_at p q) (λ k h. and_from (settled p q k) (p.bank.given k q.sure) (all_settled k) h)

    possibly_gives : (a : ℕ) → T (possibly p q a) → T (gives p.bank q.sure a)
    possibly_gives =
        output_more p.bank (possible_at p q) (λ k. p.bank.given k q.sure)
        (λ k h. elim (or_cases (not (settled p q k)) (p.bank.given k q.sure) h) [ inl f ↦ absurd (T_not (settled p q k) f (all_settled k)) | inr g ↦ g ])

    meeting_stable : Least p.rules q.sure (gives p.bank q.sure) q.sure
    meeting_stable = record {
      closed = closed_fewer p.rules q.possible q.sure (surely_or_held p marks q) (gives p.bank q.sure) q.sure high
          (λ a h. sure.closed a (or_left (surely_or_held p marks q a) (derives p.rules q.possible q.sure a) (or_left (surely p q a) (ltb a p.atoms && is_present (marks a)) (gives_surely a h)))) sure.closed;
      smallest = λ t closed a h. (possible_least p ok q).smallest t
          (closed_fewer p.rules q.sure q.sure (gives p.bank q.sure) (possibly p q) t (λ a h. h) (λ a h. closed a (or_left (gives p.bank q.sure a) (derives p.rules q.sure t a) (possibly_gives a h))) closed)
          a (and_left (has (reachable p q) a) (not (is_absent (marks a))) (tabled_passes (allowed p marks q) p.atoms a (subst (λ r. T (has r.possible a)) (sym still) (low a h))));
    }
      where
        sure : Least p.rules q.possible (surely_or_held p marks q) q.sure
        sure = subst (λ r. Least p.rules q.possible (surely_or_held p marks q) r.sure) still (sure_least p ok marks q)

-- every pair of the rounds bounds the plans under the choices
pub rounds_bound : (p : Program) → WellFormed p → (cs : List Literal) (q : Pair) → Reached p (marks_of cs) q → BoundsUnder p cs q
rounds_bound p ok cs q r = record {
  canonical = (reached_canonical p ok (marks_of cs) r).0;
  sound = λ s plan e. reached_sound p ok (marks_of cs) s plan (agrees_marks s cs e) r;
  settles = λ a l. (held_sure p ok (marks_of cs) r a l, λ t. false_from (has q.possible a) (barred_impossible p ok (marks_of cs) r a t));
}

-- a bar that is surely broken is broken in every set between the bounds
broken_between : (rs : List Rule) (q : Pair) (s : List ℕ) → Brackets q s → T (surely_broken rs q) → T (broken rs s)
broken_between rs q s b =
    any_mono (λ r. is_bar r.head && body_holds q.sure q.possible r.body) (λ r. is_bar r.head && body_holds s s r.body)
    (λ r. and_mono (is_bar r.head) (is_bar r.head) (body_holds q.sure q.possible r.body) (body_holds s s r.body) (λ x. x) (body_mono q.sure s q.possible s b.low b.high r.body))
    rs

-- what a listing has under the choices
module _ (p : Program) (ok : WellFormed p) (xs : List (List ℕ)) (ls : Listed (Plan p) xs) (cs : List Literal) {q : Pair} (b : BoundsUnder p cs q) where
  under_plans : AllByRecursion (Plan p) (under cs xs)
  under_plans = all_kept_by (agrees cs) (Plan p) xs (all_from_each (Plan p) xs (λ s m. (ls.members s).0 m))

  under_bracketed : AllByRecursion (Brackets q) (under cs xs)
  under_bracketed =
      all_two (Plan p) (λ s. agrees cs s ≡ true) (Brackets q) (λ s plan e. b.sound s plan (holds (agrees cs s) e))
      (under cs xs) under_plans (kept_by_passes (agrees cs) xs)

  -- nothing, where no plan can lie between the bounds
  empties : ((s : List ℕ) → Plan p s → Brackets q s → ⊥) → under cs xs ≡ []
  empties none = none_from_all (under cs xs) (all_two (Plan p) (Brackets q) (λ s. ⊥) none (under cs xs) under_plans under_bracketed)

  pub contradiction_empties : contradictory p q ≡ true → under cs xs ≡ []
  contradiction_empties c = empties (λ s plan k. both_ways (contradictory p q) (calm_from p q (λ a h. k.high a (k.low a h))) c)

  pub barred_empties : surely_broken p.rules q ≡ true → under cs xs ≡ []
  barred_empties e = empties (λ s plan k. fails (broken p.rules s) plan.unbroken (broken_between p.rules q s k (holds (surely_broken p.rules q) e)))

  -- the first atom between the bounds can be chosen next
  pub first_open_splits : (a : ℕ) → AlikeBelow a q.sure q.possible → todo cs xs ≡ todo (absent a ∷ cs) xs
  first_open_splits a alike = push_keeps xs ls.ascending cs a q.sure (All-weaker (Brackets q) (AlikeBelow a q.sure) (λ s k i l. squeeze s k i (alike i l)) (under cs xs) under_bracketed)
    where
      squeeze : (s : List ℕ) → Brackets q s → (i : ℕ) → has q.sure i ≡ has q.possible i → has q.sure i ≡ has s i
      squeeze s k i e = same_tests (has q.sure i) (has s i) (k.low i) (λ h. subst T (sym e) (k.high i h))

  -- for it has no mark
  pub open_unmarked : (a : ℕ) → a < p.atoms → has q.sure a ≡ false → T (has q.possible a) → marks_of cs a ≡ None
  open_unmarked a l out h = go (marks_of cs a) (b.settles a l).0 (b.settles a l).1
    where
      go : (o : Option Side) → (T (is_present o) → T (has q.sure a)) → (T (is_absent o) → has q.possible a ≡ false) → o ≡ None
      go None f g = refl
      go (Some Present) f g = absurd (fails (has q.sure a) out (f tt))
      go (Some Absent) f g = absurd (fails (has q.possible a) (g tt) h)

  module _ (high : q.possible ⊆ q.sure) where
    only : AllByRecursion (λ t. t ≡ q.sure) (under cs xs)
    only = all_two (Plan p) (Brackets q) (λ t. t ≡ q.sure) (λ t plan k. same_sets plan.canonical b.canonical (λ a h. high a (k.high a h)) k.low) (under cs xs) under_plans under_bracketed

    -- bounds that meet: nothing where their set is no plan
    pub leaf_missed : (Plan p q.sure → ⊥) → under cs xs ≡ []
    leaf_missed none = leaf_missing xs ls.ascending cs q.sure only (λ m. none ((ls.members q.sure).0 m))

    module _ (free : Free p.atoms cs) (calm : contradictory p q ≡ false) where
      takes_marked : (a : ℕ) (side : Side) → a < p.atoms → marks_of cs a ≡ Some side → T (literal_holds q.sure q.sure side a)
      takes_marked a Present l e = (b.settles a l).0 (subst (λ o. T (is_present o)) (sym e) tt)
      takes_marked a Absent l e =
          not_T (has q.sure a) (λ h. fails (has q.possible a) ((b.settles a l).1 (subst (λ o. T (is_absent o)) (sym e) tt)) (consistent p q b.canonical calm a h))

      agreed : agrees cs q.sure ≡ true
      agreed = true_from (agrees cs q.sure) (marks_agree q.sure p.atoms cs free takes_marked)

      -- and else that set alone
      pub leaf_taken : Plan p q.sure → under cs xs ≡ q.sure ∷ []
      leaf_taken plan = leaf_found xs ls.ascending cs q.sure only agreed ((ls.members q.sure).1 plan)

-- at the last pair of the rounds that set is stable, so that only a bar can be in its way
pub meeting_left : (p : Program) (ok : WellFormed p) (xs : List (List ℕ)) → Listed (Plan p) xs → (cs : List Literal) {q : Pair} → Reached p (marks_of cs) q → Free p.atoms cs →
    contradictory p q ≡ false → narrowed p (marks_of cs) q ≡ q → q.possible ⊆ q.sure → under cs xs ≡ cond (broken p.rules q.sure) [] (q.sure ∷ [])
meeting_left p ok xs ls cs {q} r free calm still high = go (broken p.rules q.sure) refl
  where
    b : BoundsUnder p cs q
    b = rounds_bound p ok cs q r

    go : (v : Bool) → broken p.rules q.sure ≡ v → under cs xs ≡ cond v [] (q.sure ∷ [])
    go true e = leaf_missed p ok xs ls cs b high (λ plan. both_ways (broken p.rules q.sure) plan.unbroken e)
    go false e =
        leaf_taken p ok xs ls cs b high free calm
        (record { canonical = b.canonical; stable = meeting_stable p ok (marks_of cs) q b.canonical (consistent p q b.canonical calm) high still; unbroken = e })

-- free choices are few
abbrev is_marked : Option Side → Bool
is_marked None = false
is_marked (Some side) = true

module _ (n : ℕ) where
  marked_count : (cs : List Literal) → Free n cs → length cs ≤ count_below n (λ a. is_marked (marks_of cs a))
  marked_count [] free = omega arith
  marked_count (c ∷ cs) free =
      omega (
        arith,
        marked_count cs free.2,
        count_grows (λ a. is_marked (marks_of cs a)) (λ a. is_marked (marks_of (c ∷ cs) a))
            (λ a h. elim (eqb c.atom a) as (λ b. T (is_marked (cond b (Some c.side) (marks_of cs a)))) [ true ↦ tt | false ↦ h ])
            n c.atom free.0 (subst (λ o. T (not (is_marked o))) (sym free.1) tt)
            (subst (λ b. T (is_marked (cond b (Some c.side) (marks_of cs c.atom)))) (sym (true_from (eqb c.atom c.atom) (eqb_refl c.atom))) tt),
      )

  pub free_few : (cs : List Literal) → Free n cs → length cs ≤ n
  free_few cs free = omega (arith, marked_count cs free, count_small (λ a. is_marked (marks_of cs a)) n)

  pub free_back : (cs cs' : List Literal) → back cs ≡ Some cs' → Free n cs → Free n cs'
  free_back = back_some (λ cs cs'. Free n cs → Free n cs') (λ a cs free. free) (λ a cs cs' below free. below free.2)
