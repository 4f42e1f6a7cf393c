use Rattle.std.proofs.Common.{rules, arith, ◌≡◌, ◌<◌, ◌+ℤ◌, pos, length, replicate}
use Rattle.std.proofs.Common.{ℕ, ℤ, w32, to_z, of_z, FitsSigned, List, sym, ◌∙◌, add-one}
use Rattle.std.proofs.lemmas.Int.{to_z-of_z}
use Rattle.std.specs.Ordering.{int_eq}
use Rattle.operators.specs.declared.operator.ReductionOp.TheVariants.{Sum}
use Rattle.tile_eval.specs.Rows.{at}
use Rattle.reductions.specs.inside.Gathering.{once_came}
use Rattle.reductions.proofs.TakeValues.{one_more, at_same, same_long}
use Rattle.reductions.proofs.bins.add_number_to_any_bin_of_each_point.Goals as goal

pub loop-k-preserved : goal.loop-k-preserved
loop-k-preserved c = λ j h.
    let k : ℕ = c.loop-k.k in
    let cs : List ℤ = c.args.bins_of.now in
    let x : ℤ = to_z w32 (of_z w32 c.args.number) in
    let vs : List ℤ = replicate (length cs) x in
    let b : ℤ = to_z w32 (of_z w32 c.args.lo) +ℤ pos j in
    let long : length vs ≡ length cs = same_long (length cs) x in
    let there : k < length cs = omega arith in
    let below : k < length vs = omega (arith, long) in
    let inside : j < length c.loop-k.bins = omega (arith, c.accumulate_value_in_bin.auto.bins) in
    let bin_fits : FitsSigned w32 (at cs k) = search rules in
    let came : at c.accumulate_value_in_bin.new.bins j ≡ once_came Sum (int_eq (at cs k) b) (at c.loop-k.bins j) (at vs k) =
    c.accumulate_value_in_bin.ensures j inside
    ∙ (λ i. once_came Sum (int_eq (to_z-of_z w32 (at cs k) bin_fits i) b) (at c.loop-k.bins j) (sym (at_same x (length cs) k there) i)) in
    rw add-one (one_more Sum vs cs b k (at c.loop-k.bins j) (at c.accumulate_value_in_bin.new.bins j) _ below (sym long) came
    (c.loop-k.invariant j inside))
