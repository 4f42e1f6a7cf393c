-- How the sums of clamped differences from a center are computed: for the contracts of inner functions.
use Rattle.std.specs.Prelude.{ℕ, ℤ, pos, ◌<◌, ◌≤ℤ◌, ◌+ℤ◌, ◌-ℤ◌, ◌*ℤ◌, List, [], ◌∷◌, length}
use Rattle.domains.specs.Arithmetic.{clamped}
use Rattle.row_loops.specs.Rows.{at}
use Rattle.narrow_kernels.specs.declared.narrow_taps.NarrowTap.{NarrowTap}
use Rattle.narrow_kernels.specs.declared.narrow_centers.NarrowCenter.{NarrowCenter}
use Rattle.narrow_kernels.specs.declared.narrow_centers.NarrowNearQuad.{NarrowNearQuad}

-- at place k: the number within the center's bounds that lies nearest to that of a line
abbrev pub near_line_at : NarrowCenter → List ℤ → ℕ → ℤ
near_line_at center line k = at center.line.now k +ℤ clamped (at line k -ℤ at center.line.now k) center.low center.high

-- and that of the tap's line, times its factor
abbrev pub near_tap_at : NarrowCenter → NarrowTap → ℕ → ℤ
near_tap_at center tap k = tap.factor *ℤ near_line_at center tap.line.now k

-- those of a list of taps, added up exactly
abbrev pub near_tap_sum : NarrowCenter → List NarrowTap → ℕ → ℤ
near_tap_sum center [] k = pos 0
near_tap_sum center (tap ∷ taps) k = near_tap_at center tap k +ℤ near_tap_sum center taps k

-- the factors of a list of taps, added up
abbrev pub factor_sum : List NarrowTap → ℤ
factor_sum [] = pos 0
factor_sum (tap ∷ taps) = tap.factor +ℤ factor_sum taps

-- those of four lines, added up and then multiplied, exactly
abbrev pub near_quad_at : NarrowNearQuad → ℕ → ℤ
near_quad_at quad k =
    quad.factor
    *ℤ ((near_line_at quad.center quad.a.now k +ℤ near_line_at quad.center quad.b.now k)
    +ℤ (near_line_at quad.center quad.c.now k +ℤ near_line_at quad.center quad.d.now k))

-- each of its lines has a number at place k, and 0 lies within the center's bounds
pub record HasNearQuad (quad : NarrowNearQuad) (k : ℕ) : Type 0 where
  pub own : k < length quad.center.line.now
  pub a : k < length quad.a.now
  pub b : k < length quad.b.now
  pub c : k < length quad.c.now
  pub d : k < length quad.d.now
  pub low : quad.center.low ≤ℤ pos 0
  pub high : pos 0 ≤ℤ quad.center.high
