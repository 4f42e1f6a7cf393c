use Rattle.std.proofs.Common.{take}
use Rattle.std.specs.List.{flat_map}
use Rattle.command_faults.specs.FaultLines.{name_text}
use Rattle.command_faults.specs.Taking.{TakesAll}
use Rattle.command_faults.proofs.check_lines.write_fault_cycle_names.Given as goal

abbrev pub invariant-loop-name : goal.invariant-loop-name
invariant-loop-name g l =
    TakesAll (flat_map name_text (take l.name-index l.names)) (g.W.Sink.contents l.initial.writer) (g.W.Sink.contents l.writer)
    (g.W.Sink.failures l.initial.writer) (g.W.Sink.failures l.writer)
