use Rattle.std.proofs.Common.{◌≡◌, map, drop}
use Rattle.job.specs.Kept.{pipeline_in}
use Rattle.overlap_tiles.specs.inside.Made.{marked_by, list_last_reader_places_by_stage}
use Rattle.overlap_tiles.specs.Views.{step_view}
use Rattle.overlap_tiles.proofs.lives.list_last_reader_places_by_stage.Given as goal

abbrev pub invariant-loop-place : goal.invariant-loop-place
invariant-loop-place l =
    marked_by (pipeline_in l.job) l.place l.lasts.items (map step_view (drop l.place l.steps)) ≡ list_last_reader_places_by_stage (pipeline_in l.job)
    (map step_view l.steps)
