use Rattle.std.proofs.Common.{take}
use Rattle.std.specs.List.{flat_map}
use Rattle.command_faults.specs.Taking.{TakesAll}
use Rattle.command_faults.proofs.texts.write_texts_in_fault_line.Given as goal

abbrev pub invariant-loop-text : goal.invariant-loop-text
invariant-loop-text g l =
    TakesAll (flat_map (λ t. t.now) (take l.text-index l.texts)) (g.W.Sink.contents l.initial.writer) (g.W.Sink.contents l.writer)
    (g.W.Sink.failures l.initial.writer) (g.W.Sink.failures l.writer)
