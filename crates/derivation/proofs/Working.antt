-- The worklist: how a least model comes about, step by step.
use Rattle.std.proofs.Common.{◌≡◌, ℕ, suc, ◌<◌, Bool, true, false, cond, not, ◌&&◌, T, ◌⊎◌, List, [], ◌∷◌, ◌++◌, length, get_or, set, sym, refl, ap, ◌∙◌, subst, inl, inr, arith, eqb→eq}
use lib.Dec.{eqb_refl}
use Rattle.std.proofs.lemmas.List.{append-nil, length-set}
use Rattle.semantics.specs.declared.Side.{Side}
use Rattle.semantics.specs.declared.Side.TheVariants.{Present, Absent}
use Rattle.semantics.specs.declared.Literal.{Literal}
use Rattle.semantics.specs.declared.Head.{Head}
use Rattle.semantics.specs.declared.Head.TheVariants.{Bar, Atom}
use Rattle.semantics.specs.Sets.{has, ◌⊆◌, Canonical, any, all, ◌∈◌}
use Rattle.semantics.specs.Rules.{Rule, literal_holds, body_holds, heads, derives, follows, least, rule_below, head_below}
use Rattle.semantics.proofs.Booleans.{or_cases, or_left, or_right, and_left, and_right, and_from, fails, holds, all_each, any_from}
use Rattle.semantics.proofs.Bytes.{has_below, has-set, set_canonical, set_more, set_cases}
use Rattle.semantics.proofs.LeastModel.{body_mono, heads_below, least_step, is_least}
use Rattle.semantics.proofs.Members.{at_place, in_append_left, in_append_right, in_append_cases}
use Rattle.lines.specs.Lines.{no_rule}
use Rattle.derivation.specs.Indexing.{plainly, needs_atom}
use Rattle.derivation.specs.Worklist.{due, newly, joined_by, HasHead, Underway, From, Nothing}

-- an element that passes has a place
module _ {A : Type 0} (d : A) where
  any_placed : (p : A → Bool) (xs : List A) → T (any p xs) → (i : ℕ) × (i < length xs) × T (p (get_or xs i d))
  any_placed p [] h = absurd h
  any_placed p (x ∷ xs) h = elim (or_cases (p x) (any p xs) h) [
    | inl here ↦ (0, omega arith, here)
    | inr later ↦ let r = any_placed p xs later in (suc r.0, omega (arith, r.1), r.2)
  ]

-- a body that holds with one atom more held without it, or asks for it
literal_without : (s by : List ℕ) (a : ℕ) (d : Side) (b : ℕ) → T (literal_holds (set s a 1) by d b) → T (literal_holds s by d b) ⊎ T (plainly a d b)
literal_without s by a Present b h = elim (set_cases s a b h) [ inl e ↦ inr (rw e (eqb_refl a)) | inr k ↦ inl k ]
literal_without s by a Absent b h = inl h

body_without : (s by : List ℕ) (a : ℕ) (ls : List Literal) → T (body_holds (set s a 1) by ls) → T (body_holds s by ls) ⊎ T (any (λ l. plainly a l.side l.atom) ls)
body_without s by a [] h = inl tt
body_without s by a (l ∷ ls) h =
    let p = literal_holds (set s a 1) by l.side l.atom in
    let q = plainly a l.side l.atom in
    let here = literal_without s by a l.side l.atom (and_left p (body_holds (set s a 1) by ls) h) in
    let later = body_without s by a ls (and_right p (body_holds (set s a 1) by ls) h) in
    elim here [
      | inr asks ↦ inr (or_left q (any (λ x. plainly a x.side x.atom) ls) asks)
      | inl k ↦ elim later [
        | inr asks ↦ inr (or_right q (any (λ x. plainly a x.side x.atom) ls) asks)
        | inl m ↦ inl (and_from (literal_holds s by l.side l.atom) (body_holds s by ls) k m)
      ]
    ]

atom_heads : (h : ℕ) → T (heads (Atom h) h)
atom_heads h = eqb_refl h

module _ (rs : List Rule) (by bare : List ℕ) where
  abbrev n : ℕ
  n = length bare

  abbrev rule : ℕ → Rule
  rule j = get_or rs j no_rule

  -- nothing is used: each rule is to do
  pub start : T (all (rule_below n) rs) → Canonical n bare → Underway rs by bare (From 0) bare []
  start rules_below canonical = record {
    below = rules_below;
    given = canonical;
    used = bare;
    size = refl;
    canonical = canonical;
    begun = λ a h. h;
    low = λ a h. h;
    high = λ a h. inl h;
    waiting = λ a m. absurd m;
    sound = λ a h. least_step rs by (has bare) n rules_below (has_below canonical) [] (λ b k. absurd k) a (or_left (has bare a) (derives rs by [] a) h);
    fired = λ j l h. inr (omega arith);
  }

  head_from : (s : List ℕ) (h : ℕ) → T (has s h) → {g : Head} → g ≡ Atom h → HasHead s g
  head_from s h k e a z = subst (λ b. T (has s b)) (eqb→eq h a (subst (λ g. T (heads g a)) e z)) k

  -- what is to do may be settled
  settle : (todo : ℕ → Type 0) (model pending : List ℕ) → Underway rs by bare todo model pending → (todo' : ℕ → Type 0) →
      ((j : ℕ) → j < length rs → todo j → T (body_holds model by (rule j).body) → HasHead model (rule j).head ⊎ todo' j) → Underway rs by bare todo' model pending
  settle todo model pending u todo' f = record {
    below = u.below;
    given = u.given;
    used = u.used;
    size = u.size;
    canonical = u.canonical;
    begun = u.begun;
    low = u.low;
    high = u.high;
    waiting = u.waiting;
    sound = u.sound;
    fired = λ j l h. elim (u.fired j l h) [
      | inl k ↦ inl k
      | inr t ↦ f j l t (body_mono u.used model by by u.low (λ a x. x) (rule j).body h)
    ];
  }

  pub all_done : (todo : ℕ → Type 0) (model pending : List ℕ) → ((j : ℕ) → j < length rs → todo j → ⊥) → Underway rs by bare todo model pending → Underway rs by bare Nothing model pending
  all_done todo model pending none u = settle todo model pending u Nothing (λ j l t b. absurd (none j l t))

  module _ (todo : ℕ → Type 0) (model pending : List ℕ) (u : Underway rs by bare todo model pending) where
    head_in : (j : ℕ) → j < length rs → T (head_below n (rule j).head)
    head_in j l = and_left (head_below n (rule j).head) _ (all_each (rule_below n) rs (rule j) u.below (at_place no_rule rs j l))

    -- a derived atom comes in, and waits
    add : (h : ℕ) → h < n → T (derives rs by model h) → Underway rs by bare todo (set model h 1) (pending ++ h ∷ [])
    add h l d = record {
      below = u.below;
      given = u.given;
      used = u.used;
      size = u.size;
      canonical = set_canonical u.canonical h 1 (omega arith);
      begun = λ a x. set_more model h a (u.begun a x);
      low = λ a x. set_more model h a (u.low a x);
      high = λ a x. elim (set_cases model h a x) [
        | inl e ↦ inr (in_append_right pending (h ∷ []) a (inl e))
        | inr k ↦ elim (u.high a k) [ inl y ↦ inl y | inr y ↦ inr (in_append_left pending (h ∷ []) a y) ]
      ];
      waiting = λ a x. elim (in_append_cases pending (h ∷ []) a x) [
        | inl y ↦ set_more model h a (u.waiting a y)
        | inr y ↦ elim y [ inl e ↦ rw e (has-set model h (omega (arith, u.canonical.size))) | inr none ↦ absurd none ]
      ];
      sound = λ a x. elim (set_cases model h a x) [
        | inl e ↦ rw e (least_step rs by (has bare) n u.below (has_below u.given) model u.sound h (or_right (has bare h) (derives rs by model h) d))
        | inr k ↦ u.sound a k
      ];
      fired = λ j k x. elim (u.fired j k x) [ inl y ↦ inl (λ a z. set_more model h a (y a z)) | inr t ↦ inr t ];
    }

    derived : (j h : ℕ) → j < length rs → (rule j).head ≡ Atom h → T (body_holds model by (rule j).body) → T (derives rs by model h)
    derived j h l e b =
        any_from (λ r. heads r.head h && body_holds model by r.body) rs (rule j) (at_place no_rule rs j l)
        (and_from (heads (rule j).head h) (body_holds model by (rule j).body) (rw e (atom_heads h)) b)

    -- a rule is fired
    module _ (i : ℕ) (here : i < length rs) (todo' : ℕ → Type 0) (less : (j : ℕ) → todo j → todo' j ⊎ (j ≡ i)) where
      -- nothing new comes of it, since its body fails or its head is there
      fire_none : (T (body_holds model by (rule i).body) → HasHead model (rule i).head) → Underway rs by bare todo' model (pending ++ [])
      fire_none f = subst (Underway rs by bare todo' model) (sym (append-nil pending)) (settle todo model pending u todo' (λ j l t b. elim (less j t) [
        | inl t' ↦ inr t'
        | inr e ↦ inl (subst (λ k. HasHead model (rule k).head) (sym e) (f (subst (λ k. T (body_holds model by (rule k).body)) e b)))
      ]))

      fire_atom : (h : ℕ) → (rule i).head ≡ Atom h → (x y : Bool) → has model h ≡ x → body_holds model by (rule i).body ≡ y →
          Underway rs by bare todo' (joined_by model (cond (not x && y) (h ∷ []) [])) (pending ++ cond (not x && y) (h ∷ []) [])
      fire_atom h e true y p q = fire_none (λ b. head_from model h (holds (has model h) p) e)
      fire_atom h e false false p q = fire_none (λ b. absurd (fails (body_holds model by (rule i).body) q b))
      fire_atom h e false true p q =
          let below : h < n = heads_below n (rule i).head h (rw e (atom_heads h)) (head_in i here) in
          let grown = add h below (derived i h here e (holds (body_holds model by (rule i).body) q)) in
          let there = has-set model h (omega (arith, u.canonical.size)) in
          settle todo (set model h 1) (pending ++ h ∷ []) grown todo' (λ j l t b. elim (less j t) [
            | inl t' ↦ inr t'
            | inr same ↦ inl (head_from (set model h 1) h there (ap (λ k. (rule k).head) same ∙ e))
          ])

      pub fire : Underway rs by bare todo' (joined_by model (newly by model (rule i))) (pending ++ newly by model (rule i))
      fire = go (rule i).head refl
        where
          go : (g : Head) → (rule i).head ≡ g →
              Underway rs by bare todo' (joined_by model (due model (body_holds model by (rule i).body) g)) (pending ++ due model (body_holds model by (rule i).body) g)
          go Bar e = fire_none (λ b. rw e (λ a z. absurd z))
          go (Atom h) e = fire_atom h e (has model h) (body_holds model by (rule i).body) refl refl

  pub waits_below : (todo : ℕ → Type 0) (model pending : List ℕ) → Underway rs by bare todo model pending → (a : ℕ) → a ∈ pending → a < n
  waits_below todo model pending u a m = has_below u.canonical a (u.waiting a m)

  -- the last atom that waits is used, and the rules that ask for it are to do
  pub take_last : (model pending : List ℕ) (a : ℕ) → Underway rs by bare Nothing model (pending ++ a ∷ []) → (todo : ℕ → Type 0) →
      ((j : ℕ) → j < length rs → T (needs_atom a (rule j)) → todo j) → Underway rs by bare todo model pending
  take_last model pending a u todo asked = record {
    below = u.below;
    given = u.given;
    used = set u.used a 1;
    size = length-set u.used a 1 ∙ u.size;
    canonical = u.canonical;
    begun = u.begun;
    low = λ b x. elim (set_cases u.used a b x) [ inl e ↦ rw e in_model | inr k ↦ u.low b k ];
    high = λ b x. elim (u.high b x) [
      | inl k ↦ inl (set_more u.used a b k)
      | inr m ↦ elim (in_append_cases pending (a ∷ []) b m) [
        | inl k ↦ inr k
        | inr k ↦ elim k [ inl e ↦ inl (rw e (has-set u.used a below)) | inr none ↦ absurd none ]
      ]
    ];
    waiting = λ b m. u.waiting b (in_append_left pending (a ∷ []) b m);
    sound = u.sound;
    fired = λ j l h. elim (body_without u.used by a (rule j).body h) [
      | inl k ↦ elim (u.fired j l k) [ inl y ↦ inl y | inr none ↦ absurd none ]
      | inr k ↦ inr (asked j l k)
    ];
  }
    where
      in_model : T (has model a)
      in_model = u.waiting a (in_append_right pending (a ∷ []) a (inl refl))

      below : a < length u.used
      below = omega (arith, has_below u.canonical a in_model, u.size)

  -- nothing waits and nothing is to do
  pub finish : (model : List ℕ) → Underway rs by bare Nothing model [] → model ≡ least rs by (has bare) n
  finish model u = is_least rs by (has bare) n u.below (has_below u.given) model u.canonical closed u.sound
    where
      all_used : model ⊆ u.used
      all_used a h = elim (u.high a h) [ inl k ↦ k | inr none ↦ absurd none ]

      closed : (a : ℕ) → T (follows rs by (has bare) model a) → T (has model a)
      closed a h = elim (or_cases (has bare a) (derives rs by model a) h) [
        | inl k ↦ u.begun a k
        | inr k ↦
            let r = any_placed no_rule (λ q. heads q.head a && body_holds model by q.body) rs k in
            let q = rule r.0 in
            elim (u.fired r.0 r.1 (body_mono model u.used by by all_used (λ b x. x) q.body (and_right (heads q.head a) (body_holds model by q.body) r.2))) [
              | inl y ↦ y a (and_left (heads q.head a) (body_holds model by q.body) r.2)
              | inr none ↦ absurd none
            ]
      ]
