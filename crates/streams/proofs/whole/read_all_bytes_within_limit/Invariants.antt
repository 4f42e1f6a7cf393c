-- What was read so far left the reader, and no call has failed.
use Rattle.std.proofs.Common.{◌≡◌, ◌+◌, ◌-◌, vec_len}
use Rattle.std.specs.Io.KnownBytes.{Consumes}
use Rattle.streams.proofs.whole.read_all_bytes_within_limit.Given as goal

abbrev pub invariant-loop-piece : goal.invariant-loop-piece
invariant-loop-piece g l =
    Consumes (g.R.Source.remaining l.initial.reader) (g.R.Source.remaining l.reader) l.bytes.items
    × (g.R.Source.failures l.reader ≡ g.R.Source.failures l.initial.reader)

abbrev pub decreases-loop-piece : goal.decreases-loop-piece
decreases-loop-piece g l = (l.limit + 1) - vec_len l.bytes
