-- The index: which lines an atom wakes.
use Rattle.std.specs.Prelude.{◌≡◌, ℕ, ◌+◌, ◌<◌, Bool, false, T, List, [], ◌∷◌, ◌++◌, map, length, replicate, vec_items, ◌==◌, slice_index_or, slice_set}
use Rattle.semantics.specs.declared.Side.{Side}
use Rattle.semantics.specs.declared.Side.TheVariants.{Present, Absent}
use Rattle.semantics.specs.declared.Literal.{Literal}
use Rattle.semantics.specs.Sets.{any, ◌∈◌}
use Rattle.semantics.specs.Rules.{Rule}
use Rattle.derivation.specs.declared.index.Index.{Index}
use Rattle.lines.specs.Lines.{no_rule}

-- a literal is plain, and of atom a
abbrev pub plainly : ℕ → Side → ℕ → Bool
plainly a Present b = b == a
plainly a Absent b = false

-- a stands in the plain body
abbrev pub needs_atom : ℕ → Rule → Bool
needs_atom a r = any (λ l. plainly a l.side l.atom) r.body

-- for each atom, the numbers of the lines that it wakes
abbrev pub lists_of : Index → List (List ℕ)
lists_of ix = map vec_items (vec_items ix.woken)

abbrev pub no_lists : ℕ → List (List ℕ)
no_lists atoms = replicate atoms []

-- line j comes last in the list of its atom
abbrev pub put : ℕ → ℕ → List (List ℕ) → List (List ℕ)
put j a lists = slice_set lists a (slice_index_or lists a [] ++ j ∷ [])

-- once for each plain literal of line j
abbrev pub put_literal : ℕ → Side → ℕ → List (List ℕ) → List (List ℕ)
put_literal j Present a lists = put j a lists
put_literal j Absent a lists = lists

abbrev pub put_body : ℕ → List Literal → List (List ℕ) → List (List ℕ)
put_body j [] lists = lists
put_body j (l ∷ ls) lists = put_body j ls (put_literal j l.side l.atom lists)

-- the lines from number j on, and all lines
abbrev pub put_rules : ℕ → List Rule → List (List ℕ) → List (List ℕ)
put_rules j [] lists = lists
put_rules j (r ∷ rs) lists = put_rules (j + 1) rs (put_body j r.body lists)

unfoldable pub index_of : ℕ → List Rule → List (List ℕ)
index_of atoms rs = put_rules 0 rs (no_lists atoms)

-- the lists name lines that there are, and the list of each atom has every line in whose plain body it stands
pub record Indexed (atoms : ℕ) (rs : List Rule) (lists : List (List ℕ)) : Type 0 where
  pub size : length lists ≡ atoms
  pub named : (a j : ℕ) → j ∈ slice_index_or lists a [] → j < length rs
  pub complete : (a j : ℕ) → j < length rs → T (needs_atom a (slice_index_or rs j no_rule)) → j ∈ slice_index_or lists a []
