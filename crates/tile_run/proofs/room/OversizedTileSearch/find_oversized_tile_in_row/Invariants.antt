use Rattle.std.proofs.Common.{◌≡◌, ℕ, None, find, map}
use Rattle.std.specs.List.{range_with_len}
use Rattle.job.specs.Kept.{pipeline_in}
use Rattle.overlap_tiles.specs.Needs.{tile_of_stage}
use Rattle.overlap_tiles.specs.Work.{is_tile_over_scratch_limit}
use Rattle.tile_run.proofs.room.OversizedTileSearch.find_oversized_tile_in_row.Given as goal

abbrev pub invariant-loop-col : goal.invariant-loop-col
invariant-loop-col l =
    find (λ (t : ℕ × ℕ). is_tile_over_scratch_limit (pipeline_in l.self.job.now) l.self.schedule.now.inlining (tile_of_stage l.self.stage t))
    (map (λ (j : ℕ). (l.row, j)) (range_with_len 0 l.col)) ≡ None
