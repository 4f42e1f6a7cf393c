use Rattle.std.proofs.Common.{◌≡◌, drop}
use Rattle.job.specs.Kept.{pipeline_in}
use Rattle.overlap_tiles.specs.Work.{find_key_over_scratch_limit}
use Rattle.overlap_tiles.proofs.room.find_key_over_scratch_limit.Given as goal

abbrev pub invariant-loop-key : goal.invariant-loop-key
invariant-loop-key l =
    find_key_over_scratch_limit (pipeline_in l.job) l.schedule.inlining (drop l.key-index l.keys)
    ≡ find_key_over_scratch_limit (pipeline_in l.job) l.schedule.inlining l.keys
