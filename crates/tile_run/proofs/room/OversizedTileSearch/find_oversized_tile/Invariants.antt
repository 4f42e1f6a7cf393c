use Rattle.std.proofs.Common.{◌≡◌, ℕ, None, find}
use Rattle.std.specs.List.{flat_map, range_with_len}
use Rattle.job.specs.Kept.{pipeline_in}
use Rattle.overlap_tiles.specs.Needs.{tile_of_stage}
use Rattle.overlap_tiles.specs.Work.{is_tile_over_scratch_limit}
use Rattle.tile_run.specs.inside.Room.{row_tiles}
use Rattle.tile_run.proofs.room.OversizedTileSearch.find_oversized_tile.Given as goal

abbrev pub invariant-loop-row : goal.invariant-loop-row
invariant-loop-row l =
    find (λ (t : ℕ × ℕ). is_tile_over_scratch_limit (pipeline_in l.self.job.now) l.self.schedule.now.inlining (tile_of_stage l.self.stage t))
    (flat_map (row_tiles l.self.grid) (range_with_len 0 l.row)) ≡ None
