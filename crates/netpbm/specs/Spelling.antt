-- The one written form of a picture.
use Rattle.std.specs.Prelude.{ℕ, ◌==◌, if◌then◌else◌, List, [], ◌∷◌, ◌++◌, length}
use Rattle.std.specs.Fmt.{decimal}
use Rattle.netpbm.specs.Image.{Image}
use Rattle.netpbm.specs.Colours.{interleaved}
use Rattle.netpbm.specs.Raw.{raw_raster}

-- `P5` or `P6`, LF, the width, a blank, the height, LF, the greatest sample, LF
abbrev pub header : Image → List ℕ
header p =
    (80 ∷ (if length p.planes == 1 then 53 else 54) ∷ 10 ∷ []) ++ decimal p.cols ++ 32 ∷ []
    ++ decimal p.rows ++ 10 ∷ [] ++ decimal p.max ++ 10 ∷ []

abbrev pub spelling : Image → List ℕ
spelling p = header p ++ raw_raster p.max (interleaved p.planes)
