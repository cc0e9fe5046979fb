-- Why a table is lawful: there are few rows, and each gives an atom within bounds.
use Rattle.std.specs.Prelude.{◌≡◌, ◌≤◌, true, T, List, [], ◌∷◌, map, nat_le}
use Rattle.std.proofs.Common.{arith, leb→le}
use Rattle.std.proofs.lemmas.List.{length-map}
use Rattle.std.specs.List.{AllByRecursion}
use Rattle.semantics.specs.Banks.{Lawful}
use Rattle.semantics.specs.Modules.{pair_table}
use Rattle.semantics.proofs.Booleans.{holds, and_left, and_right}
use Rattle.semantics.proofs.Modules.{table_lawful}
use Rattle.modules.specs.declared.rows.Pair.{Pair}
use Rattle.modules.specs.declared.rows.PairTable.{PairTable}
use Rattle.modules.specs.Tables.{row_of, rows_of}
use Rattle.modules.specs.Pairs.{atoms_fit}

fits_within : (rows : List Pair) → T (atoms_fit rows) → AllByRecursion (λ r. r.to ≤ 65535) (map row_of rows)
fits_within [] h = tt
fits_within (p ∷ ps) h = (leb→le p.to 65535 (and_left (nat_le p.to 65535) (atoms_fit ps) h), fits_within ps (and_right (nat_le p.to 65535) (atoms_fit ps) h))

pub rows_within : (rows : List Pair) → atoms_fit rows ≡ true → AllByRecursion (λ r. r.to ≤ 65535) (map row_of rows)
rows_within rows e = fits_within rows (holds (atoms_fit rows) e)

-- what each table owes as a module
pub pair_table_lawful : (table : PairTable) → Lawful (pair_table (rows_of table))
pair_table_lawful table =
    table_lawful (rows_of table) (record { few = omega (arith, table.few, table.rows.ok.0, length-map table.rows.items row_of); within = rows_within table.rows.items table.within })
