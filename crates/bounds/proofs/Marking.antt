-- What a mark's byte says.
use Rattle.std.proofs.Common.{◌≡◌, ℕ, Bool, true, false, cond, not, ◌&&◌, ◌||◌, eqb, Some, None, sym, refl, ap, ◌∙◌, arith}
use mir.Val.{bool_byte}
use Rattle.std.proofs.lemmas.Bool.{eqb-true, ne_eqb}
use Rattle.semantics.specs.declared.Side.TheVariants.{Present, Absent}
use Rattle.semantics.specs.Alternating.{mark_in, is_present, is_absent}
use Rattle.semantics.proofs.Bytes.{bit}

present_of : (x y : Bool) → is_present (cond x (Some Present) (cond y (Some Absent) None)) ≡ x
present_of true y = refl
present_of false true = refl
present_of false false = refl

absent_of : (x y : Bool) → (x ≡ true → y ≡ false) → is_absent (cond x (Some Present) (cond y (Some Absent) None)) ≡ y
absent_of true y h = sym (h refl)
absent_of false true h = refl
absent_of false false h = refl

present_byte : (b : ℕ) → is_present (mark_in b) ≡ eqb b 1
present_byte b = present_of (eqb b 1) (eqb b 2)

absent_byte : (b : ℕ) → is_absent (mark_in b) ≡ eqb b 2
absent_byte b = absent_of (eqb b 1) (eqb b 2) (λ t. let e = eqb-true b 1 t in ne_eqb b 2 (λ f. omega arith))

-- what the code writes for a test
byte_of : (b : Bool) → bool_byte b ≡ bit b
byte_of true = refl
byte_of false = refl

pub sure_byte : (m : ℕ) → bool_byte (eqb m 1) ≡ bit (is_present (mark_in m))
sure_byte m = byte_of (eqb m 1) ∙ ap bit (sym (present_byte m))

pub possible_byte : (m : ℕ) → bool_byte (not (eqb m 2)) ≡ bit (not (is_absent (mark_in m)))
possible_byte m = byte_of (not (eqb m 2)) ∙ ap (λ b. bit (not b)) (sym (absent_byte m))

pub held_byte : (x y m : ℕ) → x ≡ y → bool_byte (eqb x 1 || eqb m 1) ≡ bit (eqb y 1 || is_present (mark_in m))
held_byte x y m e = byte_of (eqb x 1 || eqb m 1) ∙ ap (λ z. bit (eqb z 1 || eqb m 1)) e ∙ ap (λ b. bit (eqb y 1 || b)) (sym (present_byte m))

pub barred_byte : (x y m : ℕ) → x ≡ y → bool_byte (eqb x 1 && not (eqb m 2)) ≡ bit (eqb y 1 && not (is_absent (mark_in m)))
barred_byte x y m e = byte_of (eqb x 1 && not (eqb m 2)) ∙ ap (λ z. bit (eqb z 1 && not (eqb m 2))) e ∙ ap (λ b. bit (eqb y 1 && not b)) (sym (absent_byte m))
