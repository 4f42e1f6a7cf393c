-- Where a schedule leaves room for each tile, no work tile lacks it.
use Rattle.std.proofs.Common.{◌≡◌, ◌||◌, refl, sym, subst, Bool, true, false, Option, Some, None}
use Rattle.std.specs.Prelude.{IsSomeAnd}
use Rattle.domains.specs.Tiles.{HasTile}
use Rattle.domains.specs.declared.grid.Grid.{Grid}
use Rattle.gossip_core.proofs.FinishLists.{none_passes}
use Rattle.tile_boxes.proofs.TilesAreTargets.{gridded}
use Rattle.grouping.specs.Inlining.{Inlining, IsScheduleOf}
use Rattle.tile_boxes.specs.Costs.{AllFitScratch}
use Rattle.job.specs.Answers.{Tile}
use Rattle.job.specs.Pipeline.{Pipeline}
use Rattle.job.specs.Readers.{grid_at}
use Rattle.overlap_tiles.specs.Work.{IsWork, is_accumulator_at, is_stored_function, is_tile_over_scratch_limit, tiles_in_order}
use Rattle.tile_run.proofs.FirstTooBig.{fits_none, in_work}
use Rattle.tile_run.specs.Work.{wanted_by}
use Rattle.tile_run.specs.declared.room.TiledStages.{TiledStages}
use Rattle.tile_run.specs.declared.room.TiledStages.TheVariants.{Functions, Accumulators}

module _ (job : Pipeline) (s : Inlining) (is : IsScheduleOf job s) (fit : AllFitScratch job s.inlining) where
  abbrev fitting : Inlining
  fitting = record s { fits = true }

  is_fitting : IsScheduleOf job fitting
  is_fitting = record { inlining = is.inlining; costs = is.costs; fits = λ e. fit }

  has_grid : (t : Tile) → IsSomeAnd (grid_at job t.stage) (λ grid. HasTile grid t.row t.col)
      → (grid : Grid) × (grid_at job t.stage ≡ Some grid) × HasTile grid t.row t.col
  has_grid t has = by (grid_at job t.stage) refl has
    where
      by : (o : Option Grid) → grid_at job t.stage ≡ o → IsSomeAnd o (λ grid. HasTile grid t.row t.col)
          → (grid : Grid) × (grid_at job t.stage ≡ Some grid) × HasTile grid t.row t.col
      by None there h = absurd h
      by (Some grid) there h = (grid, there, h)

  has_room_for : (t : Tile) → IsWork job s.inlining t → (work : TiledStages) → wanted_by job s.inlining work t.stage ≡ true
      → is_tile_over_scratch_limit job s.inlining t ≡ false
  has_room_for t tile work wanted =
      let at = has_grid t tile.tile in
      let stage = gridded job t.stage at.0 at.1 in
      none_passes (is_tile_over_scratch_limit job s.inlining) (tiles_in_order job (wanted_by job s.inlining work))
      (fits_none job fitting work is_fitting refl) t
      (in_work job s.inlining t.stage stage.stage stage.there (wanted_by job s.inlining work) stage.tiles wanted t.row t.col
      (subst (λ (g : Grid). HasTile g t.row t.col) (sym stage.is) at.2))

  pub has_room : (t : Tile) → IsWork job s.inlining t → is_tile_over_scratch_limit job s.inlining t ≡ false
  has_room t tile = by (is_stored_function job s.inlining t.stage) refl tile.made
    where
      by : (b : Bool) → is_stored_function job s.inlining t.stage ≡ b → (b || is_accumulator_at job t.stage) ≡ true
          → is_tile_over_scratch_limit job s.inlining t ≡ false
      by true stored made = has_room_for t tile Functions stored
      by false stored made = has_room_for t tile Accumulators made
