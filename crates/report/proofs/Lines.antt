-- Where the lines of a printout stand: those of the plans, then the last of them, and then those of the atoms.
use Rattle.std.proofs.Common.{◌≡◌, ℕ, ◌+◌, ◌-◌, ◌<◌, ◌≤◌, if◌then◌else◌, ltb, List, [], ◌∷◌, ◌++◌, map, length, get_or, take, refl, ap, ◌∙◌, inl, inr, arith, length-append, length-take}
use lib.ListN.{length-map}
use Rattle.std.proofs.lemmas.Bool.{lt-ltb, le-ltb, cases_lt}
use Rattle.std.proofs.lemmas.List.{get_or_append_left, get_or-append_right, get_or-take, get_or-map}

-- a line for each plan, an end and a line for each atom; or a line for each of the first million plans
module _ (f : List ℕ → List ℕ) (end : List ℕ) (tells plans : List (List ℕ)) where
  abbrev pub whole : List (List ℕ)
  whole = map f plans ++ end ∷ tells

  abbrev pub cut_off : List (List ℕ)
  cut_off = map f (take 1_000_000 plans)

  abbrev pub all_lines : List (List ℕ)
  all_lines = if ltb (length plans) 1_000_000 then whole else cut_off

  all_lines_whole : length plans < 1_000_000 → all_lines ≡ whole
  all_lines_whole few = rw lt-ltb

  all_lines_cut_off : 1_000_000 ≤ length plans → all_lines ≡ cut_off
  all_lines_cut_off many = rw le-ltb

  plan_in_whole : (k : ℕ) → k < length plans → (k < length whole) × (get_or whole k [] ≡ f (get_or plans k []))
  plan_in_whole k l =
      let n = length-map plans f in
      let m = length-append (map f plans) (end ∷ tells) in
      (omega arith, get_or_append_left (map f plans) (end ∷ tells) [] k (omega arith) ∙ get_or-map f plans k [] [] l)

  plan_in_cut_off : (k : ℕ) → k < length plans → k < 1_000_000 → (k < length cut_off) × (get_or cut_off k [] ≡ f (get_or plans k []))
  plan_in_cut_off k l few =
      let n = length-map (take 1_000_000 plans) f in
      let m = length-take 1_000_000 plans in
      (omega arith, get_or-map f (take 1_000_000 plans) k [] [] (omega arith) ∙ ap f (get_or-take 1_000_000 plans k [] few))

  -- the line of a plan
  pub plan_at : (k : ℕ) → k < length plans → k < 1_000_000 → (k < length all_lines) × (get_or all_lines k [] ≡ f (get_or plans k []))
  plan_at k l few =
      elim (cases_lt (length plans) 1_000_000) [
        | inl all ↦ rw (all_lines_whole all) (plan_in_whole k l)
        | inr many ↦ rw (all_lines_cut_off many) (plan_in_cut_off k l few)
      ]

  module _ (few : length plans < 1_000_000) where
    -- how many lines there are
    pub length_whole : length all_lines ≡ length plans + 1 + length tells
    length_whole = rw (all_lines_whole few) (omega (arith, length-map plans f, length-append (map f plans) (end ∷ tells)))

    -- the end
    pub end_at : (length plans < length all_lines) × (get_or all_lines (length plans) [] ≡ end)
    end_at =
        let n = length_whole in (
          omega arith,
          ap (λ ls. get_or ls (length plans) []) (all_lines_whole few) ∙ get_or-append_right (map f plans) (end ∷ tells) (length plans) (length plans) [] (length-map plans f) (omega arith)
              ∙ ap (λ i. get_or (end ∷ tells) i []) (let e : length plans - length plans ≡ 0 = omega arith in e),
        )

    -- the line of an atom
    pub tell_at : (a : ℕ) → a < length tells → (length plans + 1 + a < length all_lines) × (get_or all_lines (length plans + 1 + a) [] ≡ get_or tells a [])
    tell_at a l =
        let n = length_whole in (
          omega arith,
          ap (λ ls. get_or ls (length plans + 1 + a) []) (all_lines_whole few)
              ∙ get_or-append_right (map f plans) (end ∷ tells) (length plans) (length plans + 1 + a) [] (length-map plans f) (omega arith)
              ∙ ap (λ i. get_or (end ∷ tells) i []) (let e : length plans + 1 + a - length plans ≡ 1 + a = omega arith in e)
              ∙ get_or-append_right (end ∷ []) tells 1 (1 + a) [] refl (omega arith)
              ∙ ap (λ i. get_or tells i []) (let e : 1 + a - 1 ≡ a = omega arith in e),
        )

  -- with a million plans or more
  pub length_cut_off : 1_000_000 ≤ length plans → length all_lines ≡ 1_000_000
  length_cut_off many = rw (all_lines_cut_off many) (omega (arith, length-map (take 1_000_000 plans) f, length-take 1_000_000 plans))
