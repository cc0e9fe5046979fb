use Rattle.std.proofs.Common.{◌≡◌, ℕ, ◌<◌, ◌≤◌, get_or}
use Rattle.listing.specs.Tallies.{counted}
use Rattle.listing.proofs.tallies.count.Given as goal

abbrev pub invariant-loop-atom : goal.invariant-loop-atom
invariant-loop-atom l =
    ((a : ℕ) → a < l.atom → get_or l.tallies a 0 ≡ counted l.plan a (get_or l.initial.tallies a 0))
    × ((a : ℕ) → l.atom ≤ a → get_or l.tallies a 0 ≡ get_or l.initial.tallies a 0)
