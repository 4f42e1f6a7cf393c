use Rattle.std.proofs.Common.{take}
use Rattle.command_faults.specs.Taking.{TakesAll}
use Rattle.row_streams.specs.StripsMade.{strips_joined}
use Rattle.streamed_results.proofs.result.write_each_result_strip.Given as goal

abbrev pub invariant-loop-strip : goal.invariant-loop-strip
invariant-loop-strip g l =
    TakesAll (strips_joined (take l.strip-index l.strips)) (g.W.Sink.contents l.fn.writer) (g.W.Sink.contents l.writer)
    (g.W.Sink.failures l.fn.writer) (g.W.Sink.failures l.writer)
