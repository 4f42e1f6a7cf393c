use Rattle.std.proofs.Common.{take}
use Rattle.std.specs.List.{flat_map}
use Rattle.std.specs.Int.{w32}
use Rattle.hex.specs.Hex.{encode_lower}
use Rattle.tile_fact.specs.FactFile.{number_bytes}
use Rattle.write_buffer.specs.Passing.{Passes}
use Rattle.fact_lines.proofs.records.put_hex_fact_samples.Given as goal

abbrev pub invariant-loop-sample : goal.invariant-loop-sample
invariant-loop-sample g l =
    Passes (flat_map (λ sample. encode_lower (number_bytes w32 sample)) (take l.sample-index l.samples)) l.initial.buffer l.buffer
    (g.W.Sink.contents l.initial.writer) (g.W.Sink.contents l.writer) (g.W.Sink.failures l.initial.writer) (g.W.Sink.failures l.writer)
