-- The least model asks of the bare atoms only those below n.
use Rattle.std.proofs.Common.{◌≡◌, ℕ, zero, suc, ◌<◌, Bool, ◌||◌, List, refl, ap, ◌∙◌}
use Rattle.semantics.specs.Sets.{has, tabled}
use Rattle.semantics.specs.Rules.{Rule, derives, follows, step, steps, least}
use Rattle.semantics.proofs.Bytes.{has-tabled}
use Rattle.bounds.proofs.Tables.{tabled_alike}

module _ (rs : List Rule) (by : List ℕ) (f g : ℕ → Bool) (n : ℕ) (alike : (a : ℕ) → a < n → f a ≡ g a) where
  steps_alike : (k : ℕ) → steps rs by f n k ≡ steps rs by g n k
  steps_alike zero = refl
  steps_alike (suc k) =
      tabled_alike (follows rs by f (steps rs by f n k)) (follows rs by g (steps rs by f n k)) n (λ a l. ap (λ b. b || derives rs by (steps rs by f n k) a) (alike a l))
      ∙ ap (step rs by g n) (steps_alike k)

  pub least_alike : least rs by f n ≡ least rs by g n
  unfolding least
  least_alike = steps_alike (suc n)

-- so they can be written as a set
pub least_tabled : (rs : List Rule) (by : List ℕ) (f : ℕ → Bool) (n : ℕ) → least rs by (has (tabled f 0 n)) n ≡ least rs by f n
least_tabled rs by f n = least_alike rs by (has (tabled f 0 n)) f n (has-tabled f n)
