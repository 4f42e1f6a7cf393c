use Rattle.std.proofs.Common.{ℕ, ◌≡◌, ◌++◌, ◌∷◌, [], map, take, length}
use Rattle.domains.specs.declared.area.Area.{Area}
use Rattle.job.specs.Kept.{pipeline_in}
use Rattle.overlap_tiles.specs.inside.Placed.{ArePlaces}
use Rattle.overlap_tiles.specs.Views.{step_view}
use Rattle.overlap_tiles.proofs.places.list_step_places_by_stage.Given as goal

abbrev pub invariant-loop-place : goal.invariant-loop-place
invariant-loop-place l =
    record {
      size : length l.places.items ≡ length (pipeline_in l.job).stages;
      places : (target : ℕ × Area) → ArePlaces (map step_view (take l.place l.steps) ++ target ∷ []) l.places.items;
    }
