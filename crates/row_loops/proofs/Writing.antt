-- Rows that are written place by place.
use Rattle.std.proofs.Common.{arith, ℕ, ℤ, ◌≡◌, ◌≢◌, ◌+◌, ◌<◌, List, length, slice_set, below_more, get_or-set_other}
use Rattle.std.proofs.Common.{get_or-set_same, pos, ◌∙◌}
use Rattle.std.proofs.lemmas.List.{length-set}
use Rattle.row_loops.specs.Rows.{EachPlace, at}

-- a row that is right below k stays so, and is right at k once the number is written there
pub EachPlace-more : (f : ℕ → ℤ) (out : List ℤ) (k : ℕ) (v : ℤ) → k < length out → v ≡ f k → EachPlace k (λ j. at out j ≡ f j)
    → EachPlace (k + 1) (λ j. at (slice_set out k v) j ≡ f j)
EachPlace-more f out k v lt e below =
    below_more (λ j. at (slice_set out k v) j ≡ f j) k
    (λ j h. let ne : j ≢ k = omega arith in rw get_or-set_other (below j h))
    (get_or-set_same out k v (pos 0) lt ∙ e)

-- and at the next place too, once the number is written there as well
pub EachPlace-pair : (f : ℕ → ℤ) (out : List ℤ) (k : ℕ) (v : ℤ) → k + 1 < length out → v ≡ f k → v ≡ f (k + 1)
    → EachPlace k (λ j. at out j ≡ f j) → EachPlace (k + 2) (λ j. at (slice_set (slice_set out k v) (k + 1) v) j ≡ f j)
EachPlace-pair f out k v lt e next below = λ j h.
    let first = EachPlace-more f out k v (omega arith) e below in
    let room : k + 1 < length (slice_set out k v) = rw length-set lt in
    EachPlace-more f (slice_set out k v) (k + 1) v room next first j (omega arith)
