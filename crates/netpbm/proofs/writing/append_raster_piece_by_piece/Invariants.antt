-- What is there so far is the raster up to the pixels that are done.
use Rattle.std.proofs.Common.{◌≡◌, ◌≤◌, ◌-◌, ◌++◌}
use Rattle.netpbm.proofs.Written.{raster_to}
use Rattle.netpbm.proofs.writing.append_raster_piece_by_piece.Given as goal

abbrev pub invariant-loop-done : goal.invariant-loop-done
invariant-loop-done l = (l.done ≤ l.area) × (l.bytes.items ≡ l.fn.bytes.items ++ raster_to l.done l.picture)

abbrev pub decreases-loop-done : goal.decreases-loop-done
decreases-loop-done l = l.area - l.done
