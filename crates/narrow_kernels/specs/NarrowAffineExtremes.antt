-- The lesser or greater ones of what affine maps make of the numbers of lines.
use Rattle.std.specs.Prelude.{ℕ, ℤ}
use Rattle.std.specs.Int.{int_min, int_max}
use Rattle.row_loops.specs.Rows.{at}
use Rattle.narrow_kernels.specs.NarrowAffine.{affine_value, FitsAffine}
use Rattle.narrow_kernels.specs.declared.narrow_affine_extremes.NarrowAffineLine.{NarrowAffineLine}
use Rattle.narrow_kernels.specs.declared.narrow_affine_extremes.NarrowExtreme.{NarrowExtreme}
use Rattle.narrow_kernels.specs.declared.narrow_affine_extremes.NarrowExtreme.TheVariants.{Least, Greatest}

-- the one of two numbers that is taken
abbrev pub extreme_value : NarrowExtreme → ℤ → ℤ → ℤ
extreme_value Least a b = int_min a b
extreme_value Greatest a b = int_max a b

-- what the map of a line makes of its number at place k
abbrev pub affine_line_at : NarrowAffineLine → ℕ → ℤ
affine_line_at a k = affine_value a.map.factor a.map.addend a.map.bits a.map.offset (at a.line.now k)

-- each step of that fits in 16 bits
abbrev pub FitsAffineLine : NarrowAffineLine → ℕ → Type 0
FitsAffineLine a k = FitsAffine a.map.factor a.map.addend a.map.bits a.map.offset (at a.line.now k)
