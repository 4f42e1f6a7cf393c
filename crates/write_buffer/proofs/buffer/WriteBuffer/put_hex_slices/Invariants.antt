use Rattle.std.proofs.Common.{take}
use Rattle.std.specs.List.{flat_map}
use Rattle.hex.specs.Hex.{encode_lower}
use Rattle.write_buffer.specs.Passing.{Passes}
use Rattle.write_buffer.proofs.buffer.WriteBuffer.put_hex_slices.Given as goal

abbrev pub invariant-loop-part : goal.invariant-loop-part
invariant-loop-part g l =
    Passes (flat_map (λ part. encode_lower part.now) (take l.part-index l.parts)) l.initial.self l.self (g.W.Sink.contents l.initial.writer)
    (g.W.Sink.contents l.writer) (g.W.Sink.failures l.initial.writer) (g.W.Sink.failures l.writer)
