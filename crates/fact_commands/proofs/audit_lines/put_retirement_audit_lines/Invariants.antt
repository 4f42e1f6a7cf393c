use Rattle.std.proofs.Common.{take}
use Rattle.std.specs.List.{flat_map}
use Rattle.fact_commands.specs.Verdicts.{retired_line}
use Rattle.write_buffer.specs.Passing.{Passes}
use Rattle.fact_commands.proofs.audit_lines.put_retirement_audit_lines.Given as goal

abbrev pub invariant-loop-job : goal.invariant-loop-job
invariant-loop-job g l =
    Passes (flat_map retired_line (take l.job-index l.retired)) l.initial.buffer l.buffer
    (g.W.Sink.contents l.initial.writer) (g.W.Sink.contents l.writer) (g.W.Sink.failures l.initial.writer) (g.W.Sink.failures l.writer)
