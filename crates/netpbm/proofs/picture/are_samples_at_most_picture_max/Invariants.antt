-- No sample so far is above the greatest, and that is one of them, or 0.
use Rattle.std.proofs.Common.{◌≡◌, ℕ, ◌<◌, ◌≤◌, ◌⊎◌, get_or}
use Rattle.netpbm.proofs.picture.are_samples_at_most_picture_max.Given as goal

abbrev pub invariant-loop-sample : goal.invariant-loop-sample
invariant-loop-sample l =
    ((k : ℕ) → k < l.sample-index → get_or l.samples k 0 ≤ l.greatest)
    × ((l.greatest ≡ 0) ⊎ ((k : ℕ) × (k < l.sample-index) × (get_or l.samples k 0 ≡ l.greatest)))
