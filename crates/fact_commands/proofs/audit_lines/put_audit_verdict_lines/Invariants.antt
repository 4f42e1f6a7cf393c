use Rattle.std.proofs.Common.{length, take}
use Rattle.std.specs.List.{flat_map, zip}
use Rattle.fact_commands.specs.Verdicts.{verdict_line}
use Rattle.write_buffer.specs.Passing.{Passes}
use Rattle.fact_commands.proofs.audit_lines.put_audit_verdict_lines.Given as goal

abbrev pub invariant-loop-fact : goal.invariant-loop-fact
invariant-loop-fact g l =
    Passes (flat_map verdict_line (take (length l.yielded) (zip l.facts l.verdicts))) l.initial.buffer l.buffer
    (g.W.Sink.contents l.initial.writer) (g.W.Sink.contents l.writer) (g.W.Sink.failures l.initial.writer) (g.W.Sink.failures l.writer)
