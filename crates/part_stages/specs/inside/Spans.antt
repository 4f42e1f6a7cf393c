-- Spans and areas of which others lie under an index or a kernel.
use Rattle.std.specs.Prelude.{ℕ, ℤ, ◌<◌, ◌↔◌, List, length}
use Rattle.domains.specs.Area.{HoldsPoint}
use Rattle.domains.specs.Index.{Scale, index_at}
use Rattle.domains.specs.Span.{Ends, Holds}
use Rattle.domains.specs.declared.area.Area.{Area}
use Rattle.job.specs.Values.{factors, kernel_column, kernel_row, under}

-- the numbers whose indices lie in a span
abbrev pub IsUnderIndex : Ends → Scale → Ends → Type 0
IsUnderIndex s i t = (v : ℤ) → Holds t v ↔ Holds s (index_at i v)

-- the numbers around which as many as a side lie in a span
abbrev pub IsUnderSide : Ends → ℕ → Ends → Type 0
IsUnderSide s side t = (v : ℤ) → Holds t v ↔ ((k : ℕ) → k < side → Holds s (under v side k))

-- the points whose indices lie in an area
abbrev pub IsUnderIndices : Area → Scale → Scale → Area → Type 0
IsUnderIndices a i j b = (r c : ℤ) → HoldsPoint b r c ↔ HoldsPoint a (index_at i r) (index_at j c)

-- the points around which a kernel lies in an area
abbrev pub IsUnderKernel : Area → List (List ℤ) → Area → Type 0
IsUnderKernel a kernel b =
    (r c : ℤ)
    → HoldsPoint b r c ↔ ((k n : ℕ) → k < length kernel → n < length (factors kernel k) → HoldsPoint a (kernel_row kernel r k) (kernel_column kernel c n))
