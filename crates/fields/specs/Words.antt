-- What a field can be: a record's letter, a name, a level, a literal.
use Rattle.std.specs.Prelude.{ℕ, ◌+◌, ◌-◌, Bool, false, cond, ◌&&◌, ◌||◌, List, [], ◌∷◌, length, Some, None, Option, ◌==◌, nat_le, nat_lt}
use Rattle.std.specs.List.{list_all}
use Rattle.semantics.specs.declared.Side.{Side}
use Rattle.semantics.specs.declared.Side.TheVariants.{Present, Absent}
use Rattle.fields.specs.declared.field.Letter.{Letter}
use Rattle.fields.specs.declared.field.Letter.TheVariants.{Atom, Row, Rule, Bar}

-- the letters a, p, r and b
abbrev pub letter_in : ℕ → Option Letter
letter_in b = cond (b == 97) (Some Atom) (cond (b == 112) (Some Row) (cond (b == 114) (Some Rule) (cond (b == 98) (Some Bar) None)))

abbrev pub letter_of : List ℕ → Option Letter
letter_of [] = None
letter_of (b ∷ []) = letter_in b
letter_of (b ∷ c ∷ bs) = None

-- a to z
abbrev pub is_small : ℕ → Bool
is_small b = nat_le 97 b && nat_le b 122

-- a to z, A to Z, 0 to 9, and the underscore
abbrev pub is_inner : ℕ → Bool
is_inner b = is_small b || ((nat_le 65 b && nat_le b 90) || ((nat_le 48 b && nat_le b 57) || b == 95))

abbrev pub all_inner : List ℕ → Bool
all_inner = list_all is_inner

-- a small letter, and at most 15 inner bytes
abbrev pub is_name : List ℕ → Bool
is_name [] = false
is_name (b ∷ bs) = is_small b && (nat_lt (length bs) 16 && all_inner bs)

-- a level: one digit, or a 1 and then 0 to 5
abbrev pub digit_up_to : ℕ → ℕ → ℕ → Option ℕ
digit_up_to top tens b = cond (nat_le 48 b && nat_le b top) (Some (b - 48 + tens)) None

abbrev pub level_of : List ℕ → Option ℕ
level_of [] = None
level_of (b ∷ []) = digit_up_to 57 0 b
level_of (b ∷ c ∷ []) = cond (b == 49) (digit_up_to 53 10 c) None
level_of (b ∷ c ∷ d ∷ bs) = None

-- a literal is a name, negated by a minus before it
abbrev pub side_of : List ℕ → Side
side_of [] = Present
side_of (b ∷ bs) = cond (b == 45) Absent Present

abbrev pub name_of : List ℕ → List ℕ
name_of [] = []
name_of (b ∷ bs) = cond (b == 45) bs (b ∷ bs)
