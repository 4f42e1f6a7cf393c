use Rattle.std.proofs.Common.{rules, arith, ◌≡◌, ◌<◌, ◌+ℤ◌, pos, length}
use Rattle.std.proofs.Common.{ℕ, ℤ, w32, to_z, of_z, FitsSigned, List, ◌∙◌, add-one}
use Rattle.std.proofs.lemmas.Int.{to_z-of_z}
use Rattle.std.specs.Ordering.{int_eq}
use Rattle.tile_eval.specs.Rows.{at}
use Rattle.reductions.specs.inside.Gathering.{once_came}
use Rattle.reductions.proofs.TakeValues.{one_more}
use Rattle.reductions.proofs.bins.accumulate_each_value_in_its_bin.Goals as goal

pub loop-k-preserved : goal.loop-k-preserved
loop-k-preserved c = λ j h.
    let k : ℕ = c.loop-k.k in
    let vs : List ℤ = c.args.values.now in
    let cs : List ℤ = c.args.bins_of.now in
    let b : ℤ = to_z w32 (of_z w32 c.args.lo) +ℤ pos j in
    let below : k < length vs = omega arith in
    let inside : j < length c.loop-k.bins = omega (arith, c.accumulate_value_in_bin.auto.bins) in
    let value_fits : FitsSigned w32 (at vs k) = search rules in
    let bin_fits : FitsSigned w32 (at cs k) = search rules in
    let came : at c.accumulate_value_in_bin.new.bins j ≡ once_came c.args.op (int_eq (at cs k) b) (at c.loop-k.bins j) (at vs k) =
    c.accumulate_value_in_bin.ensures j inside
    ∙ (λ i. once_came c.args.op (int_eq (to_z-of_z w32 (at cs k) bin_fits i) b) (at c.loop-k.bins j) (to_z-of_z w32 (at vs k) value_fits i)) in
    rw add-one (one_more c.args.op vs cs b k (at c.loop-k.bins j) (at c.accumulate_value_in_bin.new.bins j) _ below c.requires came
    (c.loop-k.invariant j inside))
