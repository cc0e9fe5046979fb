-- What one call prints, from how far the printing has come.
use Rattle.std.proofs.Common.{◌≡◌, ℕ, ◌+◌, ◌<◌, ◌≤◌, true, List, [], length, get_or, Some, None, Ok, Err, vec_items, Option, unwrap_or, sym, refl, ap, ◌∙◌, subst, ap₂, arith, Bor, Vec}
use Rattle.std.specs.declared.alloc.Global.{Global}
use Rattle.std.specs.Vec.{with_items}
use Rattle.std.proofs.lemmas.List.{get_or_past, with_items_is}
use Rattle.std.proofs.lemmas.List.FromFn.{length-map-range_with_len, get_or-map-range_with_len}
use Rattle.faults.specs.declared.Fault.{Fault}
use Rattle.faults.specs.declared.Fault.TheVariants.{ListingFull}
use Rattle.semantics.specs.Rules.{Rule}
use Rattle.semantics.specs.Modules.{pair_table, Row as PairRow}
use Rattle.semantics.specs.Plans.{plans, over}
use Rattle.semantics.specs.Sheets.{next, tell, Answer, told, Tally, tally, is_ended}
use Rattle.modules.specs.Tables.{rows_of}
use Rattle.modules.specs.declared.rows.PairTable.{PairTable}
use Rattle.sheet.specs.declared.paper.Sheet.{Sheet}
use Rattle.sheet.specs.declared.paper.Step.{Step}
use Rattle.sheet.specs.declared.paper.Step.TheVariants.{Plan, NoMore}
use Rattle.sheet.specs.Contents.{Contents, contents, Sound, in_force}
use Rattle.sheet.specs.Calls.{Called}
use Rattle.sheet.specs.Steps.{Stepped}
use Rattle.fields.specs.Places.{NameAt}
use Rattle.fields.specs.Shown.{declared}
use Rattle.grammar.specs.Texts.{Described}
use Rattle.printout.specs.Printed.{plan_line, end_line}
use Rattle.report.specs.declared.lister.Lister.{Lister}
use Rattle.report.specs.declared.lister.Stage.{Stage}
use Rattle.report.specs.declared.lister.Stage.TheVariants.{Plans, Tells}
use Rattle.report.specs.Printouts.{printout, all_plans, told_line, tell_lines}
use Rattle.report.specs.Progress.{PrintedSoFar, StandsAt, IsNext, lines_out}
use Rattle.report.proofs.Lines.{plan_at, end_at, tell_at, length_whole, length_cut_off}
use Rattle.report.proofs.Steps.{Ends, steps_on, comes_to_end, is_cut_off, when_ended, tells}

-- the same plans
plans_are : (rows : List PairRow) (levels levels' : List ℕ) (rules rules' : List Rule) → levels ≡ levels' → rules ≡ rules' →
    plans (over (pair_table rows) (length levels) rules) ≡ plans (over (pair_table rows) (length levels') rules')
plans_are rows levels levels' rules rules' e f = cc

-- the line of an atom
abbrev atom_line : Described → ℕ → List ℕ
atom_line d a = told_line (get_or d.names a []) (tally (all_plans d) a)

-- the name of an atom, read with nothing in the place of a missing one
pub name_is : (names : List (List ℕ)) (a : ℕ) (found : Option (Bor (List ℕ))) (none name : Bor (List ℕ)) → NameAt names a found → none.now ≡ [] → name ≡ unwrap_or found none → name.now ≡ get_or names a []
name_is names a None none shown h e is = ap (λ r. r.now) is ∙ e ∙ sym (get_or_past names a [] h)
name_is names a (Some name) none shown h e is = ap (λ r. r.now) is ∙ sym h.1

-- what is told of an atom
abbrev pub TellsOf : Lister → ℕ → Answer → Type 0
TellsOf x a r = Called (pair_table (rows_of x.sheet.bank)) (contents x.sheet) (contents x.sheet) (tell a) r

module _ (d : Described) (k : ℕ) (x : Lister) (at : PrintedSoFar d k x) where
  abbrev s : Contents
  s = contents x.sheet

  laid : 0 < length s.levels
  laid = omega (arith, at.some_atom, ap length at.levels_are)

  fits : length (vec_items x.plan) ≡ length s.levels
  fits = at.buffer ∙ ap length (sym at.levels_are)

  in_force_are : plans (in_force (pair_table d.rows) s) ≡ all_plans d
  in_force_are = plans_are d.rows s.levels d.levels s.rules d.rules at.levels_are at.rules_are

  -- a lister whose sheet has the same levels, rules and bank
  comes_to : (y : Lister) → y.names ≡ x.names → y.sheet.bank ≡ x.sheet.bank → length (vec_items y.plan) ≡ length (vec_items x.plan) →
      (k' : ℕ) → (contents y.sheet).levels ≡ s.levels → (contents y.sheet).rules ≡ s.rules → Sound (pair_table d.rows) (contents y.sheet) →
      StandsAt y.stage (length d.levels) (contents y.sheet).listing (contents y.sheet).handed k' → PrintedSoFar d k' y
  comes_to y names bank buffer k' levels rules sound stands = record {
    names_are = ap declared names ∙ at.names_are;
    bank_is = ap rows_of bank ∙ at.bank_is;
    levels_are = levels ∙ at.levels_are;
    rules_are = rules ∙ at.rules_are;
    some_atom = at.some_atom;
    buffer = buffer ∙ at.buffer;
    sound = sound;
    stands = stands;
  }

  -- the lines that were printed can be counted
  pub lines_are : lines_out x ≡ k
  lines_are = let h = at.stands in grind arith

  -- once atoms are told, a next
  module _ (a : ℕ) (telling : x.stage ≡ Tells a) where
    told_so_far : (is_ended s.listing ≡ true) × (s.handed + 1 + a ≡ k) × (a ≤ length d.levels)
    told_so_far = subst (λ (g : Stage). StandsAt g (length d.levels) s.listing s.handed k) telling at.stands

    all_handed : (s.handed ≡ length (all_plans d)) × (length (all_plans d) < 1_000_000)
    all_handed =
        let h = when_ended s.listing s.handed (length (plans (in_force (pair_table d.rows) s))) told_so_far.0 at.sound.stands in
        let n = ap length in_force_are in
        (omega arith, omega arith)

    -- every atom is told
    pub end_of_printout : length s.levels ≤ a → (k ≡ length (printout d)) × (length (all_plans d) < 1_000_000)
    end_of_printout none =
        let n = length_whole (plan_line d.names) (end_line (length (all_plans d))) (tell_lines d) (all_plans d) all_handed.1 in
        let m = length-map-range_with_len (atom_line d) 0 (length d.levels) in
        (omega (arith, told_so_far, all_handed, ap length at.levels_are), all_handed.1)

    module _ (more : a < length s.levels) where
      tally_here : (tally' : Tally) → TellsOf x a (told tally') → tally' ≡ tally (all_plans d) a
      tally_here tally' called =
          let h = tells (pair_table d.rows) s a (told tally') more told_so_far.0 (rw at.bank_is at called) at.sound in
          let e : tally' ≡ tally (plans (in_force (pair_table d.rows) s)) a = cc in
          e ∙ ap (λ ps. tally ps a) in_force_are

      -- what is told of an atom
      pub tell_here : (y : Lister) (name : List ℕ) (tally' : Tally) → y.names ≡ x.names → y.sheet ≡ x.sheet → y.plan ≡ x.plan → y.stage ≡ Tells (a + 1) →
          name ≡ get_or (declared x.names) a [] → vec_items y.line ≡ told_line name tally' → TellsOf x a (told tally') → IsNext d k (vec_items y.line) y
      tell_here y name tally' names sheet room stage named is called =
          let l = ap length at.levels_are in
          let n = length-map-range_with_len (atom_line d) 0 (length d.levels) in
          let p = tell_at (plan_line d.names) (end_line (length (all_plans d))) (tell_lines d) (all_plans d) all_handed.1 a (omega arith) in
          let here : length (all_plans d) + 1 + a ≡ k = omega (arith, told_so_far, all_handed) in
          let said : get_or (tell_lines d) a [] ≡ atom_line d a = get_or-map-range_with_len (atom_line d) 0 (length d.levels) a a [] (omega arith) (omega arith) in
          let e : vec_items y.line ≡ atom_line d a = is ∙ ap₂ told_line (named ∙ ap (λ ns. get_or ns a []) at.names_are) (tally_here tally' called) in (
            subst (λ i. i < length (printout d)) here p.0,
            e ∙ sym said ∙ sym p.1 ∙ ap (λ i. get_or (printout d) i []) here,
            comes_to y names (ap (λ z. z.bank) sheet) (ap (λ z. length (vec_items z)) room) (k + 1) (ap (λ z. (contents z).levels) sheet) (ap (λ z. (contents z).rules) sheet)
                (subst (λ z. Sound (pair_table d.rows) (contents z)) (sym sheet) at.sound)
                (subst (λ (g : Stage). StandsAt g (length d.levels) (contents y.sheet).listing (contents y.sheet).handed (k + 1)) (sym stage)
                (ap (λ z. is_ended (contents z).listing) sheet ∙ told_so_far.0, omega (arith, ap (λ z. (contents z).handed) sheet, told_so_far.1), omega arith)),
          )

-- while plans are printed
module _ (d : Described) (k : ℕ) (x : Lister) (at : PrintedSoFar d k x) (printing : x.stage ≡ Plans) where
  so_far : (contents x.sheet).handed ≡ k
  so_far = (subst (λ (g : Stage). StandsAt g (length d.levels) (contents x.sheet).listing (contents x.sheet).handed k) printing at.stands).1

  -- a step that takes the sheet to this one, over a buffer that is lent and comes back as it was left
  module _ (sheet : Sheet PairTable) (before after : List ℕ) (lent : before ≡ vec_items x.plan) (filled : length after ≡ length before) (same : sheet.bank ≡ x.sheet.bank) where
    abbrev stepped : Vec ℕ Global → Stage → Lister
    stepped line stage = record { sheet = sheet; names = x.names; plan = with_items x.plan after; line = line; stage = stage }

    plan_is : vec_items (with_items x.plan after) ≡ after
    plan_is = with_items_is x.plan after (omega (arith, ap length lent, x.plan.ok.0))

    as_long : length (vec_items (with_items x.plan after)) ≡ length (vec_items x.plan)
    as_long = ap length plan_is ∙ filled ∙ ap length lent

    answered : {r : Answer} → Called (pair_table (rows_of x.sheet.bank)) (contents x.sheet) (contents sheet) (next (length before)) r →
        Called (pair_table d.rows) (contents x.sheet) (contents sheet) (next (length (vec_items x.plan))) r
    answered called = rw (lent, at.bank_is) at called

    -- a million were printed
    pub cut_off_here : (f : Fault) → Stepped (pair_table (rows_of x.sheet.bank)) (contents x.sheet) (contents sheet) before after (Err f) →
        (f ≡ ListingFull) × (k ≡ length (printout d)) × (1_000_000 ≤ length (all_plans d))
    cut_off_here f called =
        let h = is_cut_off (pair_table d.rows) (contents x.sheet) (contents sheet) (length (vec_items x.plan)) (laid d k x at) (fits d k x at) at.sound f (answered called) in
        let n = ap length (in_force_are d k x at) in
        let many : 1_000_000 ≤ length (all_plans d) = omega arith in
        let l = length_cut_off (plan_line d.names) (end_line (length (all_plans d))) (tell_lines d) (all_plans d) many in
        (h.0, omega (arith, so_far), many)

    module _ (step : Step) (taken : Stepped (pair_table (rows_of x.sheet.bank)) (contents x.sheet) (contents sheet) before after (Ok step)) where
      sound_after : Sound (pair_table d.rows) (contents sheet)
      sound_after = (answered taken).sound at.sound

      -- a plan
      pub plan_here : (line : Vec ℕ Global) → step ≡ Plan → vec_items line ≡ plan_line (declared x.names) (vec_items (with_items x.plan after)) →
          IsNext d k (vec_items line) (stepped line x.stage)
      plan_here line is_plan_step is =
          let h = steps_on (pair_table d.rows) (contents x.sheet) (contents sheet) (length (vec_items x.plan)) (laid d k x at) (fits d k x at) at.sound after (rw is_plan_step at (answered taken)) in
          let e = in_force_are d k x at in
          let n = ap length e in
          let m = so_far in
          let left : k < length (all_plans d) = omega arith in
          let few : k < 1_000_000 = omega arith in
          let p = plan_at (plan_line d.names) (end_line (length (all_plans d))) (tell_lines d) (all_plans d) k left few in
          let set : vec_items (with_items x.plan after) ≡ get_or (all_plans d) k [] = plan_is ∙ h.is_next ∙ ap (λ ps. get_or ps (contents x.sheet).handed []) e ∙ ap (λ i. get_or (all_plans d) i []) m in (
            p.0,
            is ∙ ap₂ plan_line at.names_are set ∙ sym p.1,
            comes_to d k x at (stepped line x.stage) refl same as_long (k + 1) h.levels h.rules sound_after
                (subst (λ (g : Stage). StandsAt g (length d.levels) (contents sheet).listing (contents sheet).handed (k + 1)) (sym printing) (h.goes_on, omega arith)),
          )

      -- no more plans
      module _ (none : step ≡ NoMore) where
        ends : Ends (pair_table d.rows) (contents x.sheet) (contents sheet)
        ends = comes_to_end (pair_table d.rows) (contents x.sheet) (contents sheet) (length (vec_items x.plan)) (laid d k x at) (fits d k x at) at.sound (rw none at (answered taken))

        no_plan_left : (line : Vec ℕ Global) → PrintedSoFar d (k + 1) (stepped line (Tells 0))
        no_plan_left line = comes_to d k x at (stepped line (Tells 0)) refl same as_long (k + 1) ends.levels ends.rules sound_after (ends.ended, omega (arith, ends.handed, so_far), omega arith)

        pub end_here : (line : Vec ℕ Global) (tally' : Tally) → vec_items line ≡ end_line tally'.all → TellsOf (stepped line (Tells 0)) 0 (told tally') →
            IsNext d k (vec_items line) (stepped line (Tells 0))
        end_here line tally' is telling =
            let y = stepped line (Tells 0) in
            let left = no_plan_left line in
            let e = tally_here d (k + 1) y left 0 refl (laid d (k + 1) y left) tally' telling in
            let h = all_handed d (k + 1) y left 0 refl in
            let here : length (all_plans d) ≡ k = omega (arith, h.0, ends.handed, so_far) in
            let p = end_at (plan_line d.names) (end_line (length (all_plans d))) (tell_lines d) (all_plans d) h.1 in
            (subst (λ i. i < length (printout d)) here p.0, is ∙ ap (λ (u : Tally). end_line u.all) e ∙ sym p.1 ∙ ap (λ i. get_or (printout d) i []) here, left)
