use Rattle.std.proofs.Common.{take}
use Rattle.std.specs.List.{flat_map}
use Rattle.std.specs.Int.{w64}
use Rattle.hex.specs.Hex.{encode_lower}
use Rattle.tile_fact.specs.FactFile.{number_bytes}
use Rattle.write_buffer.specs.Passing.{Passes}
use Rattle.fact_lines.proofs.records.put_hex_fact_bins.Given as goal

abbrev pub invariant-loop-bin : goal.invariant-loop-bin
invariant-loop-bin g l =
    Passes (flat_map (λ bin. encode_lower (number_bytes w64 bin)) (take l.bin-index l.bins)) l.initial.buffer l.buffer
    (g.W.Sink.contents l.initial.writer) (g.W.Sink.contents l.writer) (g.W.Sink.failures l.initial.writer) (g.W.Sink.failures l.writer)
