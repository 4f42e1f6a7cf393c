-- The samples so far and those that are still read are all.
use Rattle.std.proofs.Common.{◌≡◌, ℕ, ◌-◌, ◌≤◌, List, length}
use Rattle.netpbm.specs.Reading.{samples_read}
use Rattle.netpbm.proofs.Loops.{with_front}
use Rattle.netpbm.proofs.plain.check_plain_raster.Given as goal

abbrev pub invariant-loop : goal.invariant-loop
invariant-loop l =
    (l.at ≤ length l.bytes) × (front : List ℕ)
    × (with_front front (samples_read (l.count - l.counter) l.bytes l.at l.max) ≡ samples_read l.count l.bytes l.start l.max)
