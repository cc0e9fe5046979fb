-- Where the search goes on.
use Rattle.std.proofs.Common.{◌≡◌, ℕ, true, false, List, [], ◌∷◌, Some, sym, refl, ap, ◌∙◌, append-nil}
use Rattle.semantics.specs.declared.Literal.{Literal}
use Rattle.semantics.specs.Plans.{Program, plans}
use Rattle.semantics.specs.Search.{under, LeadsTo}
use Rattle.semantics.specs.Sheets.{Listing, Fresh, Running, Ended, Full, is_full}
use Rattle.listing.specs.Seeking.{GoesOn}

-- with no choices made, all plans are left
all_kept : (xs : List (List ℕ)) → under [] xs ≡ xs
all_kept [] = refl
all_kept (x ∷ xs) = ap (λ ys. x ∷ ys) (all_kept xs)

pub root_leads : (p : Program) → LeadsTo p 0 (Some [])
root_leads p = record { rest = sym (append-nil (under [] (plans p)) ∙ all_kept (plans p)); free = tt }

-- a plan is found only where the listing is not full
pub not_full : (p : Program) (cs cs' : List Literal) (set : List ℕ) (l : Listing) → GoesOn l p cs cs' set true → is_full l ≡ false
not_full p cs cs' set Fresh k = refl
not_full p cs cs' set Running k = refl
not_full p cs cs' set Ended k = refl
not_full p cs cs' set Full k = k.0
