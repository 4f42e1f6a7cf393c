-- Taps whose samples are adjacent.
use Rattle.std.specs.Prelude.{◌≡◌, pos}
use Rattle.linear_rows.specs.declared.linear_taps.LinearTap.{LinearTap}

-- adjacent points take adjacent samples
abbrev pub IsShiftingTap : LinearTap → Type 0
IsShiftingTap t = (t.col.now.mul ≡ pos 1) × (t.col.now.div ≡ pos 1)
