use Rattle.std.proofs.Common.{[], ◌∷◌, take}
use Rattle.std.specs.List.{flat_map}
use Rattle.hex.specs.Hex.{encode_lower}
use Rattle.write_buffer.specs.Passing.{Passes}
use Rattle.write_buffer.proofs.buffer.WriteBuffer.put_hex.Given as goal

abbrev pub invariant-loop-byte : goal.invariant-loop-byte
invariant-loop-byte g l =
    Passes (flat_map (λ byte. encode_lower (byte ∷ [])) (take l.byte-index l.bytes)) l.initial.self l.self
    (g.W.Sink.contents l.initial.writer)
    (g.W.Sink.contents l.writer) (g.W.Sink.failures l.initial.writer) (g.W.Sink.failures l.writer)
