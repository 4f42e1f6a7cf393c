-- Samples of planes that were converted for a tile.
use Rattle.std.specs.Prelude.{ℕ, zero, suc, ℤ, ◌≡◌, Option, Some, None}
use Rattle.domains.specs.Area.{HoldsPoint}
use Rattle.domains.specs.declared.area.Area.{Area}
use Rattle.netpbm.specs.Image.{Image}
use Rattle.job.specs.Values.{sample_at}
use Rattle.tile_eval.specs.Raster.{place_of}
use Rattle.tile_eval.specs.Rows.{at}
use Rattle.tile_sources.specs.declared.plane_buffer.PlaneBuffer.{PlaneBuffer}
use Rattle.tile_sources.specs.declared.plane_buffers.ThreePlaneBuffers.{ThreePlaneBuffers}

-- the numbers are the samples of plane n at the points of the area, if there is one
abbrev pub IsWide : Image → ℕ → PlaneBuffer → Type 0
IsWide picture n wide =
    (area : Area) → wide.area ≡ Some area → (r c : ℤ) → HoldsPoint area r c
    → at wide.samples.items (place_of area r c) ≡ sample_at picture n r c

-- the converted samples of plane n
abbrev pub wide_plane : ThreePlaneBuffers → ℕ → Option PlaneBuffer
wide_plane planes zero = Some planes.first
wide_plane planes (suc zero) = Some planes.second
wide_plane planes (suc (suc zero)) = Some planes.third
wide_plane planes (suc (suc (suc n))) = None

-- the numbers of each plane are its samples
pub record AreWide (picture : Image) (planes : ThreePlaneBuffers) : Type 0 where
  pub first : IsWide picture 0 planes.first
  pub second : IsWide picture 1 planes.second
  pub third : IsWide picture 2 planes.third
