use Rattle.std.proofs.Common.{take}
use Rattle.std.specs.List.{flat_map}
use Rattle.hex.specs.Hex.{encode_lower}
use Rattle.tile_fact.specs.FactFile.{fact_record}
use Rattle.write_buffer.specs.Passing.{Passes}
use Rattle.fact_lines.proofs.records.put_hex_fact_records.Given as goal

abbrev pub invariant-loop-fact : goal.invariant-loop-fact
invariant-loop-fact g l =
    Passes (flat_map (λ fact. encode_lower (fact_record fact)) (take l.fact-index l.facts)) l.initial.buffer l.buffer
    (g.W.Sink.contents l.initial.writer) (g.W.Sink.contents l.writer) (g.W.Sink.failures l.initial.writer) (g.W.Sink.failures l.writer)
