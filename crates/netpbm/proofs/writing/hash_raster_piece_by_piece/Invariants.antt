-- What the hasher holds more is the raster up to the pixels that are done.
use Rattle.std.proofs.Common.{ℕ, List, ◌≤◌, ◌-◌, ◌++◌}
use Rattle.netpbm.proofs.Written.{raster_to}
use Rattle.netpbm.proofs.writing.hash_raster_piece_by_piece.Given as goal

abbrev pub invariant-loop-done : goal.invariant-loop-done
invariant-loop-done g l =
    (l.done ≤ l.area)
    × ((message : List ℕ) → g.D.Digest.holds l.fn.hasher message → g.D.Digest.holds l.hasher (message ++ raster_to l.done l.picture))

abbrev pub decreases-loop-done : goal.decreases-loop-done
decreases-loop-done g l = l.area - l.done
