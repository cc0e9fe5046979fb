-- The atoms on which the sets between two bounds may differ.
use Rattle.std.specs.Prelude.{ℕ, zero, suc, Bool, cond, not, List, [], ◌∷◌, ◌++◌}
use Rattle.std.specs.List.{list_all}
use Rattle.semantics.specs.Banks.{Meaning}
use Rattle.semantics.specs.Alternating.{Pair, known}

-- the atoms below n that are possible and not sure, lowest first
abbrev pub unknown_atoms : Pair → ℕ → List ℕ
unknown_atoms q zero = []
unknown_atoms q (suc n) = unknown_atoms q n ++ cond (known q n) [] (n ∷ [])

-- a position reads none of these atoms
abbrev pub reads_none : Meaning → List ℕ → ℕ → Bool
reads_none m atoms k = list_all (λ a. not (m.reads k a)) atoms
