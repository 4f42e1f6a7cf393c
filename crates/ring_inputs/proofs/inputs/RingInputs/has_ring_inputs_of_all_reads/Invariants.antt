use Rattle.std.proofs.Common.{All, take}
use Rattle.job.specs.Kept.{pipeline_in}
use Rattle.job.specs.ReadViews.{read_view}
use Rattle.ring_inputs.specs.RingInputs.{EachRowTaken, IsInputRow}
use Rattle.ring_inputs.proofs.inputs.RingInputs.has_ring_inputs_of_all_reads.Given as goal

abbrev pub invariant-loop-read : goal.invariant-loop-read
invariant-loop-read l =
    All (λ x. EachRowTaken (IsInputRow (pipeline_in l.self.rings.now.job.now) l.self.rings.now.wide.rings.items) (read_view x) l.row)
    (take l.read-index l.reads)
