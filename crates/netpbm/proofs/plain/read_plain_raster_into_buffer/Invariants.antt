-- The samples so far and those that are still read are all.
use Rattle.std.proofs.Common.{◌≡◌, ◌-◌, ◌≤◌, length, vec_len}
use Rattle.std.specs.Prelude.{vec_capacity}
use Rattle.netpbm.specs.Reading.{samples_read}
use Rattle.netpbm.proofs.Loops.{with_front}
use Rattle.netpbm.proofs.plain.read_plain_raster_into_buffer.Given as goal

abbrev pub invariant-loop : goal.invariant-loop
invariant-loop l =
    (l.at ≤ length l.bytes) × (vec_len l.samples ≡ l.counter) × (l.count ≤ vec_capacity l.samples)
    × (with_front l.samples.items (samples_read (l.count - l.counter) l.bytes l.at l.max) ≡ samples_read l.count l.bytes l.start l.max)
