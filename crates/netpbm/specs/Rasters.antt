-- The planes of a picture, however their samples are kept.
use Rattle.std.specs.Prelude.{ℕ, ◌≡◌, ◌≤◌, ◌*◌, ◌⊎◌, List, length, drop}
use Rattle.netpbm.specs.declared.raster.KeptRaster.{KeptRaster}
use Rattle.netpbm.specs.declared.raster.Raster.{Raster}
use Rattle.netpbm.specs.declared.raster.Raster.TheVariants.{Planes, Made, Kept}
use Rattle.netpbm.specs.Colours.{separated}
use Rattle.netpbm.specs.MadePlane.{made_samples}
use Rattle.netpbm.specs.Planes.{samples_of}
use Rattle.netpbm.specs.Raw.{width_of, decoded}

-- the bytes of a raster that is kept
abbrev pub bytes_of : KeptRaster → List ℕ
bytes_of raster = drop raster.start raster.bytes.items

-- the planes of a raster whose samples are at most `max`
abbrev pub planes_of : ℕ → Raster → List (List ℕ)
planes_of max (Planes planes) = samples_of planes.items
planes_of max (Made planes) = made_samples planes.items
planes_of max (Kept raster) = separated raster.colours (decoded max (bytes_of raster))

-- a raster that is kept has all its bytes, and none after them
pub record IsKept (area max : ℕ) (raster : KeptRaster) : Type 0 where
  pub place : raster.start ≤ length raster.bytes.items
  pub colours : (raster.colours ≡ 1) ⊎ (raster.colours ≡ 3)
  pub whole : length (bytes_of raster) ≡ (raster.colours * area) * width_of max

abbrev pub FitsRaster : ℕ → ℕ → Raster → Type 0
FitsRaster area max (Planes planes) = Unit {0}
FitsRaster area max (Made planes) = Unit {0}
FitsRaster area max (Kept raster) = IsKept area max raster
