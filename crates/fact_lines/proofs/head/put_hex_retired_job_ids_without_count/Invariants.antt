use Rattle.std.proofs.Common.{take}
use Rattle.std.specs.List.{flat_map}
use Rattle.hex.specs.Hex.{encode_lower}
use Rattle.tile_fact.specs.FactFile.{ids_bytes}
use Rattle.write_buffer.specs.Passing.{Passes}
use Rattle.fact_lines.proofs.head.put_hex_retired_job_ids_without_count.Given as goal

abbrev pub invariant-loop-job : goal.invariant-loop-job
invariant-loop-job g l =
    Passes (flat_map (λ job. encode_lower (ids_bytes job)) (take l.job-index l.jobs)) l.initial.buffer l.buffer
    (g.W.Sink.contents l.initial.writer) (g.W.Sink.contents l.writer) (g.W.Sink.failures l.initial.writer) (g.W.Sink.failures l.writer)
