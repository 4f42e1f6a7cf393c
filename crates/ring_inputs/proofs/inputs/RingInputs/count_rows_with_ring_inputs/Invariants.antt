use Rattle.std.proofs.Common.{ℕ, ◌<◌, ◌+◌}
use Rattle.job.specs.Kept.{pipeline_in}
use Rattle.row_totals.specs.RowTotals.{IsRowRead}
use Rattle.ring_inputs.specs.RingInputs.{IsRingInput}
use Rattle.ring_inputs.proofs.inputs.RingInputs.count_rows_with_ring_inputs.Given as goal

-- all is there that the rows so far read
abbrev pub invariant-loop-k : goal.invariant-loop-k
invariant-loop-k l = (i : ℕ) → i < l.k
    → IsRowRead (IsRingInput (pipeline_in l.self.rings.now.job.now) l.self.rings.now.wide.rings.items) (pipeline_in l.self.rings.now.job.now) l.stage
    (l.first + i)
