-- Which texts are whole.
use Rattle.std.specs.Prelude.{ℕ, Bool, true, ◌&&◌, List, [], ◌∷◌, length, ◌==◌, nat_le}

-- the last line is ended
abbrev pub ended : List ℕ → Bool
ended [] = true
ended (b ∷ []) = b == 10
ended (b ∷ c ∷ bs) = ended (c ∷ bs)

-- at most 65,536 bytes, and every line is ended
abbrev pub is_whole : List ℕ → Bool
is_whole text = nat_le (length text) 65536 && ended text
