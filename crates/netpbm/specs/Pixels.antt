-- The samples of some pixels, as they are written piece by piece.
use Rattle.std.specs.Prelude.{ℕ, List, take, map}
use Rattle.std.specs.List.{slice_range}
use Rattle.netpbm.specs.Colours.{interleaved}

-- those of the first pixels
abbrev pub first_pixels : ℕ → List (List ℕ) → List ℕ
first_pixels n planes = interleaved (map (λ plane. take n plane) planes)

-- those from one pixel up to another
abbrev pub pixels : ℕ → ℕ → List (List ℕ) → List ℕ
pixels start end planes = interleaved (map (λ plane. slice_range plane start end) planes)
