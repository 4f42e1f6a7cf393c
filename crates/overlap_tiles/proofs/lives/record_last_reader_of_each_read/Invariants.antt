use Rattle.std.proofs.Common.{◌≡◌, map, drop}
use Rattle.job.specs.ReadViews.{read_view}
use Rattle.overlap_tiles.specs.inside.Made.{marked}
use Rattle.overlap_tiles.proofs.lives.record_last_reader_of_each_read.Given as goal

abbrev pub invariant-loop-read : goal.invariant-loop-read
invariant-loop-read l =
    marked l.place l.lasts (map read_view (drop l.read-index l.reads)) ≡ marked l.place l.fn.lasts (map read_view l.reads)
