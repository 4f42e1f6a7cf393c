use Rattle.std.proofs.Common.{ℕ, w32, to_z, of_z, subst, arith}
use Rattle.std.proofs.lemmas.Int.{ints}
use borrow.Author.Count.{below_more}
use Rattle.job.specs.Kept.{pipeline_in}
use Rattle.operators.specs.Values.{under}
use Rattle.ring_inputs.specs.RingInputs.{IsInputRow}
use Rattle.ring_inputs.proofs.inputs.RingInputs.has_ring_inputs_under_kernel.Goals as goal

pub loop-a-preserved : goal.loop-a-preserved
loop-a-preserved c =
    let rings = c.args.self.now.rings.now in
    let Row = IsInputRow (pipeline_in rings.job.now) rings.wide.rings.items c.args.stage in
    let P : ℕ → Type 0 = λ a. Row (under (to_z w32 (of_z w32 c.args.row)) c.args.height a) in
    below_more P c.loop-a.a c.loop-a.invariant
    (subst Row (omega (arith, ints)) (c.has_ring_input_row.ensures c.if-not-has_ring_input_row.false))
