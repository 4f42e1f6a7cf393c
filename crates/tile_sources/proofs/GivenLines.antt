-- Rows of what is given.
use Rattle.std.proofs.Common.{ℕ, ℤ, pos, ◌+ℤ◌, ◌≡◌, ap, sym, ◌∙◌, Option, Some, slice_get, length}
use Rattle.std.specs.Option.{option_map, option_map_or}
use Rattle.std.proofs.lemmas.Option.{same_Some}
use Rattle.domains.specs.Area.{HoldsPoint}
use Rattle.domains.specs.Sides.{Sides}
use Rattle.domains.specs.Tiles.{IsGrid, IsTileOf, tile_area, tile_at}
use Rattle.domains.specs.declared.area.Area.{Area}
use Rattle.domains.specs.declared.grid.Grid.{Grid}
use Rattle.domains.proofs.Covers.{tile_is}
use Rattle.job.specs.Answers.{grid_of}
use Rattle.job.specs.Pipeline.{Stage, Pipeline}
use Rattle.job.specs.Values.{value}
use Rattle.job.specs.WellFormed.{IsStage, IsJob}
use Rattle.tile_eval.specs.Rows.{EachPlace}
use Rattle.tile_eval.proofs.Rasters.{raster_at, raster_len}
use Rattle.tile_sources.specs.KnownTiles.{KnownTiles, number_in, number_at, given_number}
use Rattle.tile_sources.specs.KnownTiles.{given_at, AreTrue, AreWhole, IsGivenStage, IsGivenLine}

-- the tiles of a stage part its domain
module _ (job : Pipeline) (is : IsJob job) where
  pub grid_is : (g : ℕ) (s : Stage) → slice_get job.stages g ≡ Some s → IsGrid (grid_of job s)
  grid_is g s there =
      let stage : IsStage job s = is.stages g s there in
      record { area = record { rows = stage.rows.span; cols = stage.cols.span }; sides = is.sides }

-- the tiles of a stage are those of its grid
pub parted_is : (job : Pipeline) (g : ℕ) (s : Stage) → slice_get job.stages g ≡ Some s → (domain : Area) (sides : Sides) (grid : Grid)
    → Some domain ≡ option_map (λ (x : Stage). x.domain) (slice_get job.stages g) → sides ≡ job.sides
    → grid ≡ record { area = domain; sides = sides } → grid ≡ grid_of job s
parted_is job g s there domain sides grid found same made =
    let area : domain ≡ s.domain = same_Some domain s.domain (found ∙ ap (option_map (λ (x : Stage). x.domain)) there) in
    made ∙ (λ i. record { area = area i; sides = same i })

-- a row of points of a stage all of whose tiles are given
pub whole_line : (job : Pipeline) → IsJob job → (given : KnownTiles) (g : ℕ) (s : Stage) → IsGivenStage job given g s
    → (row first : ℤ) (count : ℕ) → EachPlace count (λ k. HoldsPoint s.domain row (first +ℤ pos k))
    → IsGivenLine job given g row first count
whole_line job is given g s tiles row first count within = record {
  stage = s;
  there = tiles.there;
  whole = tiles.whole;
  points = λ k low.
      (within k low, tiles.all _ _ (tile_is (grid_of job s) row (first +ℤ pos k) (grid_is job is g s tiles.there) (within k low)).there);
}

pub number_is : (job : Pipeline) (given : KnownTiles) (g : ℕ) (s : Stage) → slice_get job.stages g ≡ Some s → (r c : ℤ)
    → number_at given g (grid_of job s) r c ≡ given_at job given g r c
number_is job given g s there r c = sym (ap (λ (o : Option Stage). option_map_or (λ t. given_number job given g t r c) o (pos 0)) there)

-- what is true is the value of the job
pub true_number : (job : Pipeline) → IsJob job → (given : KnownTiles) → AreTrue job given → (g : ℕ) (s : Stage)
    → IsGivenStage job given g s → (r c : ℤ) → HoldsPoint s.domain r c → given_at job given g r c ≡ value job g r c
true_number job is given right g s h r c inside =
    let grid : Grid = grid_of job s in
    let t : ℕ × ℕ = tile_at grid r c in
    let tile : IsTileOf grid r c t = tile_is grid r c (grid_is job is g s h.there) inside in
    let found = h.all t.0 t.1 tile.there in
    sym (number_is job given g s h.there r c)
    ∙ ap (number_in (tile_area grid t.0 t.1) r c) (found.1 ∙ ap Some (right g s h.there t.0 t.1 found.0 tile.there found.1))
    ∙ raster_at (tile_area grid t.0 t.1) (value job g) r c tile.holds

-- true tiles have as many numbers as points
pub whole : (job : Pipeline) (given : KnownTiles) → AreTrue job given → AreWhole job given
whole job given right g s there i j xs tile found =
    ap length (right g s there i j xs tile found) ∙ raster_len (tile_area (grid_of job s) i j) (value job g)
