use Rattle.std.proofs.Common.{◌≡◌, w32, to_z, of_z, subst, arith}
use Rattle.std.proofs.lemmas.Int.{ints}
use Rattle.std.proofs.lemmas.List.{take_all}
use Rattle.std.proofs.lemmas.List.Elements.{All-more}
use Rattle.job.specs.Kept.{pipeline_in}
use Rattle.job.specs.ReadViews.{read_view}
use Rattle.job.specs.declared.reads.Read.{Read as KeptRead}
use Rattle.ring_inputs.specs.RingInputs.{EachRowTaken, IsInputRow}
use Rattle.ring_inputs.proofs.inputs.RingInputs.has_ring_inputs_of_all_reads.Goals as goal

pub loop-read-preserved : goal.loop-read-preserved
loop-read-preserved c =
    let rings = c.args.self.now.rings.now in
    let P : KeptRead → Type 0 = λ x.
    EachRowTaken (IsInputRow (pipeline_in rings.job.now) rings.wide.rings.items) (read_view x) (to_z w32 (of_z w32 c.args.row)) in
    All-more P c.args.reads.now c.loop-read.read-index c.read-item.result (omega arith) c.loop-read.invariant
    (subst P c.read-item.is (c.has_ring_inputs_of_read.ensures c.if-not-has_ring_inputs_of_read.false))

pub returns : goal.returns
returns c = λ _.
    let same : to_z w32 (of_z w32 c.args.row) ≡ c.args.row = omega (arith, ints) in
    rw (take_all c.loop-read.read-index c.args.reads.now (omega arith)) at (rw same at c.loop-read.invariant)
