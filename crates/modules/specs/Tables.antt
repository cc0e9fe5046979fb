-- The rows of a pair table, as its meaning has them.
use Rattle.std.specs.Prelude.{◌≡◌, ℕ, ◌<◌, ◌≤◌, false, cond, List, [], ◌∷◌, ◌++◌, map, length, Some, None, Ok, Err, vec_items, Option, Result, nat_le, slice_index_or}
use Rattle.semantics.specs.Modules.{Row}
use Rattle.modules.specs.declared.rows.Pair.{Pair}
use Rattle.modules.specs.declared.rows.PairTable.{PairTable}
use Rattle.faults.specs.declared.Fault.{Fault}
use Rattle.faults.specs.declared.Fault.TheVariants.{Memory, TableFull}

abbrev pub row_of : Pair → Row
row_of p = record { one = p.one; other = p.other; to = p.to }

abbrev pub rows_of : PairTable → List Row
rows_of t = map row_of (vec_items t.rows)

-- the row at a position, if there is one
abbrev pub RowAt : List Pair → ℕ → Option Pair → Type 0
RowAt rows k None = length rows ≤ k
RowAt rows k (Some row) = (k < length rows) × (slice_index_or rows k row ≡ row)

-- adding a row: at 64 rows it is refused with that fault, else it comes last or there is no memory for it; a refusal leaves the rows as they were
abbrev pub RowPushed : List Row → List Row → Row → Result (Unit {0}) Fault → Type 0
RowPushed before after row (Ok u) = (nat_le 64 (length before) ≡ false) × (after ≡ before ++ row ∷ [])
RowPushed before after row (Err f) = (f ≡ cond (nat_le 64 (length before)) TableFull Memory) × (after ≡ before)
