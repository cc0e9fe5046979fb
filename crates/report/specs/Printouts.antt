-- What is printed for the sheet that a text describes.
use Rattle.std.specs.Prelude.{ℕ, if◌then◌else◌, List, [], ◌∷◌, ◌++◌, map, length, take, nat_lt, slice_index_or}
use Rattle.std.specs.List.{range_with_len}
use Rattle.semantics.specs.Modules.{pair_table}
use Rattle.semantics.specs.Plans.{Program, plans, over}
use Rattle.semantics.specs.Sheets.{Tally, tally}
use Rattle.grammar.specs.Texts.{Described}
use Rattle.printout.specs.Printed.{plan_line, end_line, tell_line}

-- its atoms, lines and bank
abbrev pub program_of : Described → Program
program_of d = over (pair_table d.rows) (length d.levels) d.rules

abbrev pub all_plans : Described → List (List ℕ)
all_plans d = plans (program_of d)

-- what is told of an atom
abbrev pub told_line : List ℕ → Tally → List ℕ
told_line name t = tell_line name t.held t.brave t.cautious

-- a line for each atom, in the order of their numbers
abbrev pub tell_lines : Described → List (List ℕ)
tell_lines d = map (λ a. told_line (slice_index_or d.names a []) (tally (all_plans d) a)) (range_with_len 0 (length d.levels))

-- a line for each plan in listing order, and then the count and what is told of each atom;
-- where there are a million plans or more, a line for each of the first million, and no more
abbrev pub printout : Described → List (List ℕ)
printout d =
    if nat_lt (length (all_plans d)) 1_000_000
    then map (plan_line d.names) (all_plans d) ++ end_line (length (all_plans d)) ∷ tell_lines d
    else map (plan_line d.names) (take 1_000_000 (all_plans d))
