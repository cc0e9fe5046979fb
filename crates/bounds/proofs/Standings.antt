-- What the standing of a position says of whether it is surely and possibly given.
use Rattle.std.proofs.Common.{◌≡◌, ℕ, Bool, true, false, not, ◌&&◌, ◌||◌, refl, arith}
use Rattle.bounds.specs.declared.bank.Standing.TheVariants.{Sure, Open, Never}
use Rattle.bounds.specs.Ends.{standing_of}

pub sure_standing : (s g : Bool) → Sure ≡ standing_of s g → ((s && g) ≡ true) × ((not s || g) ≡ true)
sure_standing true true e = (refl, refl)
sure_standing true false e = let z : ◌≡◌ {A = ℕ} 0 1 = cc in absurd (omega arith)
sure_standing false g e = let z : ◌≡◌ {A = ℕ} 0 1 = cc in absurd (omega arith)

pub open_standing : (s g : Bool) → Open ≡ standing_of s g → ((s && g) ≡ false) × ((not s || g) ≡ true)
open_standing true true e = let z : ◌≡◌ {A = ℕ} 0 1 = cc in absurd (omega arith)
open_standing true false e = let z : ◌≡◌ {A = ℕ} 0 1 = cc in absurd (omega arith)
open_standing false g e = (refl, refl)

pub never_standing : (s g : Bool) → Never ≡ standing_of s g → ((s && g) ≡ false) × ((not s || g) ≡ false)
never_standing true true e = let z : ◌≡◌ {A = ℕ} 0 1 = cc in absurd (omega arith)
never_standing true false e = (refl, refl)
never_standing false g e = let z : ◌≡◌ {A = ℕ} 0 1 = cc in absurd (omega arith)
