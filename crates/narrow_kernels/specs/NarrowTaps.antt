-- Sums of products of factors and lines of numbers.
use Rattle.std.specs.Prelude.{ℕ, ℤ, pos, ◌≡◌, ◌+ℤ◌, ◌*ℤ◌, List, [], ◌∷◌, All, length}
use Rattle.row_loops.specs.Rows.{at}
use Rattle.narrow_kernels.specs.declared.narrow_taps.NarrowTap.{NarrowTap}

-- the product of a factor and of the number that its line has at place k, exactly
abbrev pub tap_at : NarrowTap → ℕ → ℤ
tap_at tap k = tap.factor *ℤ at tap.line.now k

-- the products of a list, added up exactly
abbrev pub tap_sum : List NarrowTap → ℕ → ℤ
tap_sum [] k = pos 0
tap_sum (tap ∷ taps) k = tap_at tap k +ℤ tap_sum taps k

-- each line has n numbers
abbrev pub HaveTapLines : ℕ → List NarrowTap → Type 0
HaveTapLines n taps = All (λ tap. length tap.line.now ≡ n) taps
