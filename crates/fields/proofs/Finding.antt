-- Looking a name up among the parts of a text that declared one.
use Rattle.std.proofs.Common.{◌≡◌, ℕ, ◌+◌, cond, List, [], ◌∷◌, Some, refl, ap, ◌∙◌, Bor}
use Rattle.std.specs.Str.{bytes_eq}
use Rattle.std.specs.List.{position, position_from}
use Rattle.std.proofs.lemmas.Iterator.Adapters.{position_from-zero}
use Rattle.fields.specs.Places.{place_from, place_of, parts}

pub position_in_parts : (xs : List (Bor (List ℕ))) (name : List ℕ) → position (λ x. bytes_eq x.now name) xs ≡ place_of (parts xs) name
position_in_parts xs name = position_from-zero (λ x. bytes_eq x.now name) xs ∙ go 0 xs
  where
    go : (k : ℕ) (ys : List (Bor (List ℕ))) → position_from (λ x. bytes_eq x.now name) k ys ≡ place_from k (parts ys) name
    go k [] = refl
    go k (y ∷ ys) = ap (cond (bytes_eq y.now name) (Some k)) (go (k + 1) ys)
