-- The lists of an index: each line is in the lists of its plain atoms, and the last line can be taken off them.
use Rattle.std.proofs.Common.{◌≡◌, ℕ, zero, suc, ◌+◌, ◌-◌, ◌<◌, ◌≤◌, Bool, T, ltb, List, [], ◌∷◌, ◌++◌, length, map, get_or, set, take, vec_items, vec_len, Vec, Global, sym, refl, ap, ◌∙◌, subst, inl, inr, arith, eqb→eq, ltb→lt}
use Rattle.std.proofs.Math.Seq.{take-append_seam}
use Rattle.std.proofs.lemmas.List.{set-set, set-get_or, map-set, get_or-map, length_push, length-set, length-map, length-replicate, get_or-set_same, get_or-set_other}
use Rattle.std.proofs.lemmas.Bool.{cases_eq}
use Rattle.semantics.specs.declared.Side.{Side}
use Rattle.semantics.specs.declared.Side.TheVariants.{Present, Absent}
use Rattle.semantics.specs.declared.Literal.{Literal}
use Rattle.semantics.specs.Sets.{any, all, ◌∈◌}
use Rattle.semantics.specs.Rules.{Rule, rule_below, head_below}
use Rattle.semantics.proofs.Booleans.{or_cases, and_left, and_right, all_each, all_from}
use Rattle.semantics.proofs.Members.{in_append_left, in_append_right, in_append_cases}
use Rattle.derivation.specs.declared.index.Index.{Index}
use Rattle.derivation.specs.Indexing.{plainly, needs_atom, lists_of, no_lists, put, put_literal, put_body, put_rules, index_of, Indexed}
use Rattle.lines.specs.Lines.{no_rule}

abbrev Lists : Type 0
Lists = List (List ℕ)

-- an atom wakes line j
abbrev Wakes : Lists → ℕ → ℕ → Type 0
Wakes lists a j = j ∈ get_or lists a []

-- the last number of a list is taken off
module _ (lists before : Lists) (j a : ℕ) (within : a < length lists) (e : lists ≡ put j a before) where
  grown : get_or lists a [] ≡ get_or before a [] ++ j ∷ []
  grown =
      let size = ap length e ∙ length-set before a (get_or before a [] ++ j ∷ []) in
      ap (λ ls. get_or ls a []) e ∙ get_or-set_same before a (get_or before a [] ++ j ∷ []) [] (omega arith)

  pub put_undone : set lists a (take (length (get_or lists a []) - 1) (get_or lists a [])) ≡ before
  put_undone =
      let front = get_or before a [] in
      let len : length (front ++ j ∷ []) - 1 ≡ length front = omega (arith, length_push front j) in
      let back : take (length (get_or lists a []) - 1) (get_or lists a []) ≡ front =
      ap (λ xs. take (length xs - 1) xs) grown ∙ ap (λ k. take k (front ++ j ∷ [])) len ∙ take-append_seam front (j ∷ []) in
      ap (set lists a) back ∙ ap (λ ls. set ls a front) e ∙ set-set before a (front ++ j ∷ []) front ∙ set-get_or before a []

-- what all of a list passes, all but the last pass
pub all_first : {A : Type 0} (p : A → Bool) (xs front : List A) (last : A) → xs ≡ front ++ last ∷ [] → T (all p xs) → T (all p front)
all_first p xs front last e h = all_from p front (λ x m. all_each p xs x h (rw e (in_append_left front (last ∷ []) x m)))

-- a body, one literal more
pub put_body_push : (j : ℕ) (ls : List Literal) (l : Literal) (lists : Lists) → put_body j (ls ++ l ∷ []) lists ≡ put_literal j l.side l.atom (put_body j ls lists)
put_body_push j [] l lists = refl
put_body_push j (x ∷ ls) l lists = put_body_push j ls l (put_literal j x.side x.atom lists)

-- lists for n atoms, which name lines below m
record Linked (n m : ℕ) (lists : Lists) : Type 0 where
  size : length lists ≡ n
  named : (a j : ℕ) → Wakes lists a j → j < m

module _ (n m : ℕ) where
  -- one number
  module _ (lists : Lists) (linked : Linked n m lists) (j : ℕ) (small : j < m) (a : ℕ) (below : a < n) where
    abbrev list : List ℕ
    list = get_or lists a []

    abbrev after : Lists
    after = put j a lists

    put_same : get_or after a [] ≡ list ++ j ∷ []
    put_same = get_or-set_same lists a (list ++ j ∷ []) [] (omega (arith, linked.size))

    put_other : (b : ℕ) → (b ≡ a → ⊥) → get_or after b [] ≡ get_or lists b []
    put_other b other = get_or-set_other lists a b (list ++ j ∷ []) [] other

    put_keeps : (b i : ℕ) → Wakes lists b i → Wakes after b i
    put_keeps b i h = elim (cases_eq b a) [
      | inl e ↦ subst (λ x. Wakes after x i) (sym e) (rw put_same (in_append_left list (j ∷ []) i (subst (λ x. Wakes lists x i) e h)))
      | inr other ↦ rw (put_other b other) h
    ]

    put_wakes : Wakes after a j
    put_wakes = rw put_same (in_append_right list (j ∷ []) j (inl refl))

    put_linked : Linked n m after
    put_linked = record {
      size = length-set lists a (list ++ j ∷ []) ∙ linked.size;
      named = λ b i h. elim (cases_eq b a) [
        | inl e ↦ elim (in_append_cases list (j ∷ []) i (subst (λ xs. i ∈ xs) put_same (subst (λ x. Wakes after x i) e h))) [
          | inl k ↦ linked.named a i k
          | inr k ↦ elim k [ inl same ↦ rw same small | inr none ↦ absurd none ]
        ]
        | inr other ↦ linked.named b i (subst (λ xs. i ∈ xs) (put_other b other) h)
      ];
    }

  -- one literal
  module _ (j : ℕ) (small : j < m) (a : ℕ) (below : a < n) (lists : Lists) (linked : Linked n m lists) where
    literal_linked : (d : Side) → Linked n m (put_literal j d a lists)
    literal_linked Present = put_linked lists linked j small a below
    literal_linked Absent = linked

    literal_wakes : (d : Side) (b : ℕ) → T (plainly b d a) → Wakes (put_literal j d a lists) b j
    literal_wakes Present b h = subst (λ x. Wakes (put j a lists) x j) (eqb→eq a b h) (put_wakes lists linked j small a below)
    literal_wakes Absent b h = absurd h

    literal_keeps : (d : Side) (b i : ℕ) → Wakes lists b i → Wakes (put_literal j d a lists) b i
    literal_keeps Present b i h = put_keeps lists linked j small a below b i h
    literal_keeps Absent b i h = h

  -- a body
  module _ (j : ℕ) (small : j < m) where
    abbrev Below : List Literal → Type 0
    Below ls = T (all (λ l. ltb l.atom n) ls)

    first : (l : Literal) (ls : List Literal) → Below (l ∷ ls) → l.atom < n
    first l ls below = ltb→lt l.atom n (and_left (ltb l.atom n) (all (λ x. ltb x.atom n) ls) below)

    rest : (l : Literal) (ls : List Literal) → Below (l ∷ ls) → Below ls
    rest l ls below = and_right (ltb l.atom n) (all (λ x. ltb x.atom n) ls) below

    body_linked : (ls : List Literal) → Below ls → (lists : Lists) → Linked n m lists → Linked n m (put_body j ls lists)
    body_linked [] below lists linked = linked
    body_linked (l ∷ ls) below lists linked =
        body_linked ls (rest l ls below) (put_literal j l.side l.atom lists) (literal_linked j small l.atom (first l ls below) lists linked l.side)

    body_keeps : (ls : List Literal) → Below ls → (lists : Lists) → Linked n m lists → (b i : ℕ) → Wakes lists b i → Wakes (put_body j ls lists) b i
    body_keeps [] below lists linked b i h = h
    body_keeps (l ∷ ls) below lists linked b i h =
        let here = first l ls below in
        body_keeps ls (rest l ls below) (put_literal j l.side l.atom lists) (literal_linked j small l.atom here lists linked l.side) b i (literal_keeps j small l.atom here lists linked l.side b i h)

    body_wakes : (ls : List Literal) → Below ls → (lists : Lists) → Linked n m lists → (b : ℕ) → T (any (λ l. plainly b l.side l.atom) ls) → Wakes (put_body j ls lists) b j
    body_wakes [] below lists linked b h = absurd h
    body_wakes (l ∷ ls) below lists linked b h =
        let here = first l ls below in
        let next = put_literal j l.side l.atom lists in
        let next-linked = literal_linked j small l.atom here lists linked l.side in
        elim (or_cases (plainly b l.side l.atom) (any (λ x. plainly b x.side x.atom) ls) h) [
          | inl k ↦ body_keeps ls (rest l ls below) next next-linked b j (literal_wakes j small l.atom here lists linked l.side b k)
          | inr k ↦ body_wakes ls (rest l ls below) next next-linked b k
        ]

  -- the lines from number j on
  abbrev AllBelow : List Rule → Type 0
  AllBelow rs = T (all (rule_below n) rs)

  first_below : (r : Rule) (rs : List Rule) → AllBelow (r ∷ rs) → T (all (λ l. ltb l.atom n) r.body)
  first_below r rs below = and_right (head_below n r.head) _ (and_left (rule_below n r) (all (rule_below n) rs) below)

  rest_below : (r : Rule) (rs : List Rule) → AllBelow (r ∷ rs) → AllBelow rs
  rest_below r rs below = and_right (rule_below n r) (all (rule_below n) rs) below

  rules_linked : (rs : List Rule) → AllBelow rs → (j : ℕ) → j + length rs ≤ m → (lists : Lists) → Linked n m lists → Linked n m (put_rules j rs lists)
  rules_linked [] below j l lists linked = linked
  rules_linked (r ∷ rs) below j l lists linked =
      rules_linked rs (rest_below r rs below) (j + 1) (omega arith) (put_body j r.body lists) (body_linked j (omega arith) r.body (first_below r rs below) lists linked)

  rules_keeps : (rs : List Rule) → AllBelow rs → (j : ℕ) → j + length rs ≤ m → (lists : Lists) → Linked n m lists → (b i : ℕ) → Wakes lists b i → Wakes (put_rules j rs lists) b i
  rules_keeps [] below j l lists linked b i h = h
  rules_keeps (r ∷ rs) below j l lists linked b i h =
      let one = first_below r rs below in
      rules_keeps rs (rest_below r rs below) (j + 1) (omega arith) (put_body j r.body lists) (body_linked j (omega arith) r.body one lists linked) b i
      (body_keeps j (omega arith) r.body one lists linked b i h)

  rules_wake : (rs : List Rule) → AllBelow rs → (j : ℕ) → j + length rs ≤ m → (lists : Lists) → Linked n m lists → (b i : ℕ) → i < length rs → T (needs_atom b (get_or rs i no_rule)) → Wakes (put_rules j rs lists) b (j + i)
  rules_wake [] below j l lists linked b i k h = absurd (omega arith)
  rules_wake (r ∷ rs) below j l lists linked b zero k h =
      let one = first_below r rs below in
      let e : j ≡ j + 0 = omega arith in
      subst (Wakes (put_rules j (r ∷ rs) lists) b) e
      (rules_keeps rs (rest_below r rs below) (j + 1) (omega arith) (put_body j r.body lists) (body_linked j (omega arith) r.body one lists linked) b j
      (body_wakes j (omega arith) r.body one lists linked b h))
  rules_wake (r ∷ rs) below j l lists linked b (suc i) k h =
      let e : j + 1 + i ≡ j + suc i = omega arith in
      subst (Wakes (put_rules j (r ∷ rs) lists) b) e
      (rules_wake rs (rest_below r rs below) (j + 1) (omega arith) (put_body j r.body lists) (body_linked j (omega arith) r.body (first_below r rs below) lists linked) b i (omega arith) h)

none_woken : (n a j : ℕ) → Wakes (no_lists n) a j → ⊥
none_woken zero a j h = h
none_woken (suc n) zero j h = h
none_woken (suc n) (suc a) j h = none_woken n a j h

none_linked : (n m : ℕ) → Linked n m (no_lists n)
none_linked n m = record { size = length-replicate n []; named = λ a j h. absurd (none_woken n a j h) }

pub indexed : (n : ℕ) (rs : List Rule) → T (all (rule_below n) rs) → Indexed n rs (index_of n rs)
unfolding index_of
indexed n rs below =
    let m = length rs in
    let linked = rules_linked n m rs below 0 (omega arith) (no_lists n) (none_linked n m) in
    record {
      size = linked.size;
      named = linked.named;
      complete = λ a j l h. let e : 0 + j ≡ j = omega arith in subst (Wakes (put_rules 0 rs (no_lists n)) a) e (rules_wake n m rs below 0 (omega arith) (no_lists n) (none_linked n m) a j l h);
    }

-- one line more
put_rules_push : (j : ℕ) (rs : List Rule) (r : Rule) (lists : Lists) → put_rules j (rs ++ r ∷ []) lists ≡ put_body (j + length rs) r.body (put_rules j rs lists)
put_rules_push j [] r lists = let e : j ≡ j + 0 = omega arith in ap (λ k. put_body k r.body lists) e
put_rules_push j (x ∷ rs) r lists =
    let e : j + 1 + length rs ≡ j + suc (length rs) = omega arith in
    put_rules_push (j + 1) rs r (put_body j x.body lists) ∙ ap (λ k. put_body k r.body (put_rules (j + 1) rs (put_body j x.body lists))) e

pub index_push : (n : ℕ) (rs : List Rule) (r : Rule) → index_of n (rs ++ r ∷ []) ≡ put_body (length rs) r.body (index_of n rs)
unfolding index_of
index_push n rs r =
    let e : 0 + length rs ≡ length rs = omega arith in
    put_rules_push 0 rs r (no_lists n) ∙ ap (λ k. put_body k r.body (put_rules 0 rs (no_lists n))) e

pub index_none : (n : ℕ) → index_of n [] ≡ no_lists n
unfolding index_of
index_none n = refl

pub atoms_kept : (ix : Index) → length (lists_of ix) ≡ vec_len ix.woken
atoms_kept ix = omega (arith, length-map (vec_items ix.woken) vec_items, ix.woken.ok.0)

pub atoms_count : (ix : Index) (n : ℕ) → lists_of ix ≡ no_lists n → vec_len ix.woken ≡ n
atoms_count ix n e =
    sym (atoms_kept ix) ∙ ap length e ∙ length-replicate n []

-- the list of an atom is read and written
module _ (ix : Index) (a : ℕ) (list : Vec ℕ Global) where
  pub list_read : a < vec_len ix.woken → list ≡ get_or (vec_items ix.woken) a list → get_or (lists_of ix) a [] ≡ vec_items list
  list_read l e = get_or-map vec_items (vec_items ix.woken) a list [] (omega (arith, ix.woken.ok.0)) ∙ ap vec_items (sym e)

  pub list_written : map vec_items (set (vec_items ix.woken) a list) ≡ set (lists_of ix) a (vec_items list)
  list_written = map-set vec_items (vec_items ix.woken) a list
