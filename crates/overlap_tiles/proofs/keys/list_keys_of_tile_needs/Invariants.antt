use Rattle.std.proofs.Common.{◌≡◌, ◌++◌, map, drop}
use Rattle.job.specs.Kept.{pipeline_in, program_id_in}
use Rattle.overlap_tiles.specs.Needs.{key_of}
use Rattle.overlap_tiles.specs.Views.{need_view}
use Rattle.overlap_tiles.proofs.keys.list_keys_of_tile_needs.Given as goal

abbrev pub invariant-loop-need : goal.invariant-loop-need
invariant-loop-need l =
    l.keys.items ++ map (key_of (program_id_in l.job) (pipeline_in l.job)) (map need_view (drop l.need-index l.needs))
    ≡ map (key_of (program_id_in l.job) (pipeline_in l.job)) (map need_view l.needs)
