-- What is written so far is the raster up to the pixels that are done.
use Rattle.std.proofs.Common.{◌≡◌, ◌≤◌, ◌-◌}
use Rattle.std.specs.Io.KnownBytes.{Appends}
use Rattle.netpbm.proofs.Written.{raster_to}
use Rattle.netpbm.proofs.writing.write_raster_piece_by_piece.Given as goal

abbrev pub invariant-loop-done : goal.invariant-loop-done
invariant-loop-done g l =
    (l.done ≤ l.area) × Appends (g.W.Sink.contents l.fn.writer) (g.W.Sink.contents l.writer) (raster_to l.done l.picture)
    × (g.W.Sink.failures l.writer ≡ g.W.Sink.failures l.fn.writer)

abbrev pub decreases-loop-done : goal.decreases-loop-done
decreases-loop-done g l = l.area - l.done
