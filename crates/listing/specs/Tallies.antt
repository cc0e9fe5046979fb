-- Counting plans for their atoms.
use Rattle.std.specs.Prelude.{◌≡◌, ℕ, ◌+◌, ◌-◌, ◌^◌, ◌<◌, min, if◌then◌else◌, List, length, slice_index}
use Rattle.semantics.specs.Sets.{has}

-- one more, up to the most that is counted
abbrev pub raised : ℕ → ℕ
raised n = min (n + 1) (2 ^ 32 - 1)

-- one more for an atom of the plan
abbrev pub counted : List ℕ → ℕ → ℕ → ℕ
counted set a tally = if has set a then raised tally else tally

-- the tallies with one plan more
abbrev pub Counted : List ℕ → List ℕ → List ℕ → Type 0
Counted set before after = (a : ℕ) → a < length before → slice_index after a ≡ counted set a (slice_index before a)
