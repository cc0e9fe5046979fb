-- The marks that the open choices make, as bytes.
use Rattle.std.specs.Prelude.{◌≡◌, ℕ, ◌<◌, List, length}
use Rattle.semantics.specs.declared.Literal.{Literal}
use Rattle.semantics.specs.Alternating.{marks_of, marks_in}

-- each byte says what the choices say of its atom
abbrev pub Marked : List Literal → List ℕ → Type 0
Marked cs bytes = (a : ℕ) → a < length bytes → marks_in bytes a ≡ marks_of cs a
