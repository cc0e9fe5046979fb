-- Declared names, in the order of their atoms' numbers.
use Rattle.std.specs.Prelude.{◌≡◌, ℕ, ◌<◌, ◌≤◌, List, [], map, length, Some, None, Option, slice_index_or}
use Rattle.std.specs.Borrow.{Bor}
use Rattle.std.specs.List.{position_from}
use Rattle.std.specs.Str.{bytes_eq}

-- the first place of a name among those from place k on
abbrev pub place_from : ℕ → List (List ℕ) → List ℕ → Option ℕ
place_from k names name = position_from (λ other. bytes_eq other name) k names

-- the atom that has a name
abbrev pub place_of : List (List ℕ) → List ℕ → Option ℕ
place_of = place_from 0

-- the bytes of each of a list of parts of a text
abbrev pub parts : List (Bor (List ℕ)) → List (List ℕ)
parts = map (λ part. part.now)

-- the name at a place, if there is one
abbrev pub NameAt : List (List ℕ) → ℕ → Option (Bor (List ℕ)) → Type 0
NameAt names k None = length names ≤ k
NameAt names k (Some name) = (k < length names) × (slice_index_or names k [] ≡ name.now)
