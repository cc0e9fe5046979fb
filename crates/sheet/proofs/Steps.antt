-- Handing out a plan, and coming to the end of the listing.
use Rattle.std.proofs.Common.{◌≡◌, ℕ, ◌+◌, ◌-◌, ◌^◌, ◌<◌, ◌≤◌, min, Bool, true, false, cond, eqb, ltb, List, [], length, get_or, take, Some, None, sym, refl, ap, ◌∙◌, subst, arith, length-take}
use Rattle.std.proofs.lemmas.Bool.{lt-ltb, le-ltb, eq-eqb, ltb-true, ltb-false, eqb-true, eqb-false, false≢true}
use Rattle.std.proofs.lemmas.List.Sums.{count_by_more_yes, count_by_more_no, count_by-le-length}
use Rattle.semantics.specs.declared.Literal.{Literal}
use Rattle.semantics.specs.Sets.{has}
use Rattle.semantics.specs.Rules.{Rule}
use Rattle.semantics.specs.Banks.{Meaning}
use Rattle.semantics.specs.Plans.{Program, WellFormed, plans, held}
use Rattle.semantics.specs.Search.{back, LeadsTo, Sought}
use Rattle.semantics.specs.Sheets.{State, atoms, next, plan, no_more, fault, Listing, Fresh, Running, Ended, Full, is_full, more_plans, listing_at}
use Rattle.sheet.specs.Contents.{Contents, state_of, in_force, Stands, Resumes, Sound}
use Rattle.sheet.specs.Calls.{Called}
use Rattle.listing.specs.States.{after_plan}
use Rattle.listing.specs.Seeking.{GoesOn}
use Rattle.listing.proofs.Seeking.{root_leads, not_full}
use Rattle.sheet.specs.Steps.{Looked, HandedOut, ended_at}
use Rattle.sheet.proofs.Calls.{accept}

-- a buffer that fits is looked for
module _ (l : Listing) (p : Program) (cs cs' : List Literal) (set : List ℕ) (found : Bool) (size n : ℕ) (fits : size ≡ n) where
  pub if_looked : Looked (eqb size n) l p cs cs' set found → GoesOn l p cs cs' set found
  if_looked k = subst (λ b. Looked b l p cs cs' set found) (eq-eqb size n fits) k

-- the search goes on: it finds a plan only where one is left, and none only where none is
module _ (p : Program) (handed : ℕ) (cs cs' : List Literal) (set : List ℕ) where
  goes_from : (found : Bool) → WellFormed p → (l : Listing) → Stands l handed (length (plans p)) → Resumes l p handed cs → is_full l ≡ false → GoesOn l p cs cs' set found → Sought p handed cs' set found
  goes_from found ok Fresh stands resumes going k = k handed ok (subst (λ n. LeadsTo p n (Some [])) (sym stands) (root_leads p))
  goes_from found ok Running stands resumes going k = k handed ok resumes
  goes_from found ok Ended stands resumes going k = record {
    more = k.0 ∙ sym (le-ltb handed (length (plans p)) (omega arith));
    is_next = λ e. absurd (false≢true (sym k.0 ∙ e));
    leads_on = λ e. absurd (false≢true (sym k.0 ∙ e));
  }
  goes_from found ok Full stands resumes going k = absurd (false≢true (sym going))

under_a_million : (l : Listing) (handed all : ℕ) → is_full l ≡ false → Stands l handed all → (handed ≤ all) × (handed < 1_000_000)
under_a_million Fresh handed all e k = (omega arith, omega arith)
under_a_million Running handed all e k = k
under_a_million Ended handed all e k = (omega arith, k.1)
under_a_million Full handed all e k = absurd (false≢true (sym e))

one_more : (b : Bool) (handed all : ℕ) → eqb (handed + 1) 1_000_000 ≡ b → handed < all → handed < 1_000_000 → Stands (cond b Full Running) (handed + 1) all
one_more true handed all e l m = (omega arith, eqb-true (handed + 1) 1_000_000 e)
one_more false handed all e l m = let ne = eqb-false (handed + 1) 1_000_000 e in (omega arith, omega arith)

leads_back : (b : Bool) (p : Program) (handed : ℕ) (cs : List Literal) → LeadsTo p handed (back cs) → Resumes (cond b Full Running) p handed cs
leads_back true p handed cs k = tt
leads_back false p handed cs k = k

tally_more : (xs : List (List ℕ)) (k a old : ℕ) → k < length xs → k < 1_000_000 → old ≡ held (take k xs) a → (b : Bool) → has (get_or xs k []) a ≡ b →
    cond b (min (old + 1) (2 ^ 32 - 1)) old ≡ held (take (k + 1) xs) a
tally_more xs k a old l m e true h = omega (arith, count_by_more_yes (λ s. has s a) xs k [] l h, count_by-le-length (λ s. has s a) (take k xs), length-take k xs)
tally_more xs k a old l m e false h = omega (arith, count_by_more_no (λ s. has s a) xs k [] l h)

next_passes : (st : State) (size : ℕ) → 0 < atoms st → size ≡ atoms st → is_full st.listing ≡ false → fault st (next size) ≡ None
next_passes st size laid fits going =
    let l : ltb 0 (atoms st) ≡ true = lt-ltb 0 (atoms st) laid in
    let b : eqb size (atoms st) ≡ true = eq-eqb size (atoms st) fits in
    rw (l, b, going)

same_contents : (l l' : List ℕ) (r r' : List Rule) (g g' : Listing) (h h' : ℕ) (t : List ℕ) (c c' : List Literal) → l ≡ l' → r ≡ r' → g ≡ g' → h ≡ h' → c ≡ c' →
    ◌≡◌ {A = Contents} (record { levels = l; rules = r; listing = g; handed = h; tallies = t; opened = c }) (record { levels = l'; rules = r'; listing = g'; handed = h'; tallies = t; opened = c' })
same_contents l l' r r' g g' h h' t c c' el er eg eh ec = cc

module _ (bank : Meaning) (s t : Contents) (cs : List Literal) (set : List ℕ) (size : ℕ) (laid : 0 < length s.levels) (fits : size ≡ length s.levels) where
  abbrev all : List (List ℕ)
  all = plans (in_force bank s)

  module _ (found : Bool) (going : is_full s.listing ≡ false) (k : GoesOn s.listing (in_force bank s) s.opened cs set found) (ok : Sound bank s) where
    finds : Sought (in_force bank s) s.handed cs set found
    finds = goes_from (in_force bank s) s.handed s.opened cs set found (ok.formed laid) s.listing ok.stands ok.resumes going k

    few : (s.handed ≤ length all) × (s.handed < 1_000_000)
    few = under_a_million s.listing s.handed (length all) going ok.stands

  -- a plan is found
  module _ (k : GoesOn s.listing (in_force bank s) s.opened cs set true) (sized : length s.tallies ≡ length s.levels) (out : HandedOut s t cs set) where
    going : is_full s.listing ≡ false
    going = not_full (in_force bank s) s.opened cs set s.listing k

    -- s with one plan more, and its tallies
    abbrev onward : Contents
    onward = record { levels = s.levels; rules = s.rules; listing = after_plan (s.handed + 1); handed = s.handed + 1; tallies = t.tallies; opened = cs }

    module _ (ok : Sound bank s) where
      more : more_plans (state_of bank s) ≡ true
      more = sym (finds true going k ok).more

      left : s.handed < length all
      left = ltb-true s.handed (length all) more

      goes_on : t ≡ onward
      goes_on =
          let h : t.handed ≡ s.handed + 1 = omega (arith, out.handed, (few true going k ok).1) in
          same_contents t.levels s.levels t.rules s.rules t.listing (after_plan (s.handed + 1)) t.handed (s.handed + 1) t.tallies t.opened cs
          out.levels out.rules (out.listing ∙ ap after_plan h) h out.opened

      onward_sound : Sound bank onward
      onward_sound =
          let found = finds true going k ok in
          record {
            formed = ok.formed;
            stands = one_more (eqb (s.handed + 1) 1_000_000) s.handed (length all) refl left (few true going k ok).1;
            tallied = λ a l. out.tallies a (omega arith)
                ∙ tally_more all s.handed a (get_or s.tallies a 0) left (few true going k ok).1 (ok.tallied a l) (has set a) (ap (λ x. has x a) (sym (found.is_next refl)));
            resumes = leads_back (eqb (s.handed + 1) 1_000_000) (in_force bank s) (s.handed + 1) cs (found.leads_on refl);
          }

      moves_on : state_of bank onward ≡ cond (more_plans (state_of bank s)) (state_of bank onward) (listing_at (state_of bank s) Ended s.handed)
      moves_on = rw more

      answers_plan : plan set ≡ cond (more_plans (state_of bank s)) (plan (get_or all s.handed [])) no_more
      answers_plan = rw more (ap plan ((finds true going k ok).is_next refl))

    pub hands_out : Called bank s t (next size) (plan set)
    hands_out = accept bank s (next size) t (plan set) refl (next_passes (state_of bank s) size laid fits going) answers_plan
        (λ ok. ap (state_of bank) (goes_on ok) ∙ moves_on ok) (λ ok. subst (Sound bank) (sym (goes_on ok)) (onward_sound ok))

  -- none is found
  module _ (k : GoesOn s.listing (in_force bank s) s.opened cs set false) (going : is_full s.listing ≡ false) (end : t ≡ ended_at s cs) where
    module _ (ok : Sound bank s) where
      none : more_plans (state_of bank s) ≡ false
      none = sym (finds false going k ok).more

      ended_sound : Sound bank (ended_at s cs)
      ended_sound =
          let h = few false going k ok in
          let l = ltb-false s.handed (length all) none in
          record { formed = ok.formed; stands = (omega arith, h.1); tallied = ok.tallied; resumes = tt }

      ends : state_of bank (ended_at s cs) ≡ cond (more_plans (state_of bank s)) (listing_at (state_of bank s) (after_plan (s.handed + 1)) (s.handed + 1)) (state_of bank (ended_at s cs))
      ends = rw none

      answers_none : no_more ≡ cond (more_plans (state_of bank s)) (plan (get_or all s.handed [])) no_more
      answers_none = rw none

    pub comes_to_end : Called bank s t (next size) no_more
    comes_to_end = accept bank s (next size) t no_more refl (next_passes (state_of bank s) size laid fits going) answers_none
        (λ ok. ap (state_of bank) end ∙ ends ok) (λ ok. subst (Sound bank) (sym end) (ended_sound ok))
