use Rattle.std.proofs.Common.{ℕ, ◌<◌}
use Rattle.job.specs.Kept.{pipeline_in}
use Rattle.operators.specs.Values.{under}
use Rattle.ring_inputs.specs.RingInputs.{IsInputRow}
use Rattle.ring_inputs.proofs.inputs.RingInputs.has_ring_inputs_under_kernel.Given as goal

abbrev pub invariant-loop-a : goal.invariant-loop-a
invariant-loop-a l =
    (a : ℕ) → a < l.a → IsInputRow (pipeline_in l.self.rings.now.job.now) l.self.rings.now.wide.rings.items l.stage (under l.row l.height a)
