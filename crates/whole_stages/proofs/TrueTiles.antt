-- Tiles of functions whose values are known whole.
use Rattle.std.proofs.Common.{ℕ, ℤ, ◌≡◌, List, Option, Some, slice_get, subst, sym, ap, ◌∙◌}
use Rattle.domains.specs.Area.{HoldsPoint, IsSubarea}
use Rattle.domains.specs.declared.area.Area.{Area}
use Rattle.domains.proofs.Covers.{tile_inside}
use Rattle.job.specs.Answers.{grid_of}
use Rattle.job.specs.Pipeline.{Body, Stage, Pipeline, plane, function, accumulator}
use Rattle.job.specs.Values.{value}
use Rattle.job.specs.WellFormed.{IsFunction}
use Rattle.tile_eval.specs.Raster.{raster, place_of}
use Rattle.whole_stages.specs.Known.{buffer_value, IsKnown}
use Rattle.tile_eval.specs.Raster.{IsTileOver, IsFunctionTile, IsTrueTile}
use Rattle.whole_stages.specs.Known.{AreTrue, BodyServed, IsServed}
use Rattle.whole_stages.specs.declared.buffers.StageBuffer.{StageBuffer}
use Rattle.row_loops.specs.Rows.{at}
use Rattle.whole_stages.proofs.Knowing.{whole_is}
use Rattle.tile_eval.proofs.Rasters.{raster_at, raster_same}

-- a tile lies in the domain of its stage
pub tile_in_domain : (job : Pipeline) (g i j : ℕ) (s : Stage) (area : Area) → IsTileOver job g i j s area → IsSubarea area s.domain
tile_in_domain job g i j s area h r c inside =
    tile_inside (grid_of job s) i j r c (subst (λ (a : Area). HoldsPoint a r c) h.is inside)

module _ (job : Pipeline) (g i j : ℕ) (area : Area) (tile : IsFunctionTile job g i j area) (buffers : List (Option StageBuffer))
    (right : AreTrue job buffers) where
  -- where a function is known, its tiles lie in what is known of it
  pub tile_known : (whole : StageBuffer) → slice_get buffers g ≡ Some (Some whole) → IsSubarea area whole.area
  tile_known whole found =
      subst (IsSubarea area) (sym (whole_is job g tile.stage whole tile.tile.there (right g whole found)).0)
      (tile_in_domain job g i j tile.stage area tile.tile)

  -- and have its values
  pub tile_true : (whole : StageBuffer) → slice_get buffers g ≡ Some (Some whole) → (numbers : List ℤ)
      → numbers ≡ raster area (buffer_value whole) → IsTrueTile job g i j numbers
  tile_true whole found numbers is =
      let own = whole_is job g tile.stage whole tile.tile.there (right g whole found) in
      record {
        area = area;
        tile = tile;
        values = is ∙ raster_same area (buffer_value whole) (value job g) (λ r c inside.
            ap (λ (xs : List ℤ). at xs (place_of whole.area r c)) own.1
            ∙ ap (λ (a : Area). at (raster tile.stage.domain (value job g)) (place_of a r c)) own.0
            ∙ raster_at tile.stage.domain (value job g) r c (tile_in_domain job g i j tile.stage area tile.tile r c inside));
      }

  -- a function that is served is known
  pub function_known : IsServed job buffers g → IsKnown buffers g
  function_known served = known tile.stage.body tile.function (served tile.stage tile.tile.there)
    where
      known : (b : Body) → IsFunction b → BodyServed job buffers g b → IsKnown buffers g
      known (plane n) is own = absurd is
      known (function cases otherwise) is own = own
      known (accumulator fold bins value bin) is own = absurd is
