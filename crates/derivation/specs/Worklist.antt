-- How far the deriving of a least model has come.
use Rattle.std.specs.Prelude.{◌≡◌, ℕ, ◌+◌, ◌<◌, ◌≤◌, Bool, cond, not, ◌&&◌, T, ◌⊎◌, List, [], ◌∷◌, length, ◌==◌, slice_index_or, slice_set}
use Rattle.semantics.specs.declared.Head.{Head}
use Rattle.semantics.specs.declared.Head.TheVariants.{Bar, Atom}
use Rattle.semantics.specs.Sets.{has, ◌⊆◌, Canonical, ◌∈◌, all}
use Rattle.semantics.specs.Rules.{Rule, body_holds, heads, least, rule_below}
use Rattle.lines.specs.Lines.{no_rule}

-- the head, if it is an atom that the set lacks and the body holds
abbrev pub due : List ℕ → Bool → Head → List ℕ
due s holds Bar = []
due s holds (Atom h) = cond (not (has s h) && holds) (h ∷ []) []

-- what a rule newly derives from the model
abbrev pub newly : List ℕ → List ℕ → Rule → List ℕ
newly by model r = due model (body_holds model by r.body) r.head

-- a set with more atoms
abbrev pub joined_by : List ℕ → List ℕ → List ℕ
joined_by s [] = s
joined_by s (a ∷ more) = joined_by (slice_set s a 1) more

-- how many bytes of a set are not 1
abbrev pub absent : List ℕ → ℕ
absent [] = 0
absent (b ∷ s) = cond (b == 1) 0 1 + absent s

-- the set has the head, or there is none
abbrev pub HasHead : List ℕ → Head → Type 0
HasHead s h = (a : ℕ) → T (heads h a) → T (has s a)

-- The model holds the bare atoms and part of the least model. Its atoms are used or pending,
-- and each rule whose body holds in the used atoms has its head in the model, or is still to do.
pub record Underway (rs : List Rule) (by bare : List ℕ) (todo : ℕ → Type 0) (model pending : List ℕ) : Type 0 where
  pub below : T (all (rule_below (length bare)) rs)
  pub given : Canonical (length bare) bare
  pub used : List ℕ
  pub size : length used ≡ length bare
  pub canonical : Canonical (length bare) model
  pub begun : bare ⊆ model
  pub low : used ⊆ model
  pub high : (a : ℕ) → T (has model a) → T (has used a) ⊎ (a ∈ pending)
  pub waiting : (a : ℕ) → a ∈ pending → T (has model a)
  pub sound : model ⊆ least rs by (has bare) (length bare)
  pub fired : (j : ℕ) → j < length rs → T (body_holds used by (slice_index_or rs j no_rule).body) → HasHead model (slice_index_or rs j no_rule).head ⊎ todo j

-- the rules from place i on are to do
abbrev pub From : ℕ → ℕ → Type 0
From i j = i ≤ j

-- no rule is to do
abbrev pub Nothing : ℕ → Type 0
Nothing j = ⊥

-- whatever was bare, the deriving goes from one point to another
abbrev pub Advances : List Rule → List ℕ → (ℕ → Type 0) → (ℕ → Type 0) → List ℕ → List ℕ → List ℕ → List ℕ → Type 0
Advances rs by todo todo' model pending model' pending' = (bare : List ℕ) → Underway rs by bare todo model pending → Underway rs by bare todo' model' pending'
