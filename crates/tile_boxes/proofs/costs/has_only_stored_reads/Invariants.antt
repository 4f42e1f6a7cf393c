use Rattle.std.proofs.Common.{◌≡◌, map, drop}
use Rattle.job.specs.Views.{stage_view}
use Rattle.job.specs.Reads.{reads_of}
use Rattle.job.specs.ReadViews.{read_view}
use Rattle.tile_boxes.specs.Tallies.{has_only_stored_reads}
use Rattle.tile_boxes.proofs.costs.has_only_stored_reads.Given as goal

abbrev pub invariant-loop-read : goal.invariant-loop-read
invariant-loop-read l =
    has_only_stored_reads l.inlining (map read_view (drop l.read-index l.read-items)) ≡ has_only_stored_reads l.inlining (reads_of (stage_view l.stage).body)
