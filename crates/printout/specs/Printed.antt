-- The lines of the printout.
use Rattle.std.specs.Prelude.{ℕ, Bool, if◌then◌else◌, List, [], ◌∷◌, ◌++◌, map, codes, decimal, ◌==◌}
use Rattle.std.specs.Borrow.{Bor}

-- the bytes of each of a list of parts of a text
abbrev pub texts : List (Bor (List ℕ)) → List (List ℕ)
texts = map (λ part. part.now)

-- a name after a comma, if the byte of its atom is 1
abbrev pub present_name : List ℕ → ℕ → List ℕ
present_name name b = if b == 1 then 44 ∷ name else []

-- the names of all atoms that are present
abbrev pub present_names : List (List ℕ) → List ℕ → List ℕ
present_names [] plan = []
present_names (name ∷ names) [] = []
present_names (name ∷ names) (b ∷ plan) = present_name name b ++ present_names names plan

-- plan, and the names of the present atoms in the order of their numbers
abbrev pub plan_line : List (List ℕ) → List ℕ → List ℕ
plan_line names plan = (codes "plan" ++ present_names names plan) ++ 10 ∷ []

-- end, and how many plans there are
abbrev pub end_line : ℕ → List ℕ
end_line count = codes "end," ++ (decimal count ++ 10 ∷ [])

-- 1 for yes and 0 for no
abbrev pub yes_no : Bool → ℕ
yes_no b = if b then 1 else 0

-- tell, the name of an atom, how many plans hold it, whether some plan does, and whether all do
abbrev pub tell_line : List ℕ → ℕ → Bool → Bool → List ℕ
tell_line name held brave cautious = codes "tell," ++ (name ++ (44 ∷ (decimal held ++ (44 ∷ (decimal (yes_no brave) ++ (44 ∷ (decimal (yes_no cautious) ++ 10 ∷ [])))))))

-- fault, its number, the line and the byte
abbrev pub fault_line : ℕ → ℕ → ℕ → List ℕ
fault_line number line byte = codes "fault," ++ (decimal number ++ (44 ∷ (decimal line ++ (44 ∷ (decimal byte ++ 10 ∷ [])))))
