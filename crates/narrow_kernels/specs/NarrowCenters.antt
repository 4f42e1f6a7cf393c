-- Sums of clamped differences of the numbers of lines from those of one line, their center, each times a factor.
use Rattle.std.specs.Prelude.{ℕ, ℤ, pos, ◌≡◌, ◌≤ℤ◌, ◌+ℤ◌, ◌-ℤ◌, ◌*ℤ◌, List, [], ◌∷◌, length}
use Rattle.domains.specs.Arithmetic.{clamped}
use Rattle.row_loops.specs.Rows.{at}
use Rattle.narrow_kernels.specs.declared.narrow_taps.NarrowTap.{NarrowTap}
use Rattle.narrow_kernels.specs.declared.narrow_centers.NarrowCenter.{NarrowCenter}

-- at place k: the center's number is subtracted from the tap's, and the result clamped and then multiplied, all exactly
abbrev pub centered_tap_at : NarrowCenter → NarrowTap → ℕ → ℤ
centered_tap_at center tap k = tap.factor *ℤ clamped (at tap.line.now k -ℤ at center.line.now k) center.low center.high

-- those of a list of taps, added up exactly
abbrev pub centered_tap_sum : NarrowCenter → List NarrowTap → ℕ → ℤ
centered_tap_sum center [] k = pos 0
centered_tap_sum center (tap ∷ taps) k = centered_tap_at center tap k +ℤ centered_tap_sum center taps k

-- the center's line has n numbers, and 0 lies within its bounds
pub record IsCenter (n : ℕ) (center : NarrowCenter) : Type 0 where
  pub line : length center.line.now ≡ n
  pub low : center.low ≤ℤ pos 0
  pub high : pos 0 ≤ℤ center.high
