-- What was written so far is a front of the bytes, and no call has failed.
use Rattle.std.proofs.Common.{◌≡◌, ◌≤◌, ◌-◌, length, take}
use Rattle.std.specs.Io.KnownBytes.{Appends}
use Rattle.streams.proofs.whole.write_all_bytes.Given as goal

abbrev pub invariant-loop-done : goal.invariant-loop-done
invariant-loop-done g l =
    (l.done ≤ length l.bytes) × Appends (g.W.Sink.contents l.initial.writer) (g.W.Sink.contents l.writer) (take l.done l.bytes)
    × (g.W.Sink.failures l.writer ≡ g.W.Sink.failures l.initial.writer)

abbrev pub decreases-loop-done : goal.decreases-loop-done
decreases-loop-done g l = length l.bytes - l.done
