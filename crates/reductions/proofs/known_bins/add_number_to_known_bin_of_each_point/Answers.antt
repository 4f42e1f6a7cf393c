use Rattle.std.proofs.Common.{rules, arith, ◌≡◌, ◌<◌, ◌+ℤ◌, ◌≤ℤ◌, pos, length, replicate, subst}
use Rattle.std.proofs.Common.{ℕ, ℤ, w32, to_z, of_z, FitsSigned, List, sym, ◌∙◌, add-one}
use Rattle.std.proofs.lemmas.Int.{ints, to_z-of_z}
use Rattle.std.specs.Ordering.{int_eq}
use Rattle.operators.specs.declared.operator.ReductionOp.TheVariants.{Sum}
use Rattle.tile_eval.specs.Rows.{at}
use Rattle.reductions.specs.inside.Gathering.{once_came}
use Rattle.reductions.proofs.TakeValues.{one_more, at_same, same_long}
use Rattle.reductions.proofs.known_bins.add_number_to_known_bin_of_each_point.Goals as goal

pub find_place_of_known_bin-place-requires : goal.find_place_of_known_bin-place-requires
find_place_of_known_bin-place-requires c =
    let k : ℕ = c.loop-k.k in
    let there : k < length c.args.bins_of.now = omega arith in
    let lo_fits : FitsSigned w32 c.args.lo = search rules in
    let bin_fits : FitsSigned w32 (at c.args.bins_of.now k) = search rules in
    subst (λ (z : ℤ). z ≤ℤ to_z w32 (of_z w32 (at c.args.bins_of.now k))) (sym (to_z-of_z w32 c.args.lo lo_fits))
    (subst (λ (z : ℤ). c.args.lo ≤ℤ z) (sym (to_z-of_z w32 (at c.args.bins_of.now k) bin_fits)) (c.requires k there).0)

pub accumulate_value_at_bin_place-requires : goal.accumulate_value_at_bin_place-requires
accumulate_value_at_bin_place-requires c =
    let k : ℕ = c.loop-k.k in
    let there : k < length c.args.bins_of.now = omega arith in
    let lo_fits : FitsSigned w32 c.args.lo = search rules in
    let bin_fits : FitsSigned w32 (at c.args.bins_of.now k) = search rules in
    let bin : c.args.lo +ℤ pos c.find_place_of_known_bin-place.result ≡ at c.args.bins_of.now k =
    (λ i. sym (to_z-of_z w32 c.args.lo lo_fits) i +ℤ pos c.find_place_of_known_bin-place.result)
    ∙ c.find_place_of_known_bin-place.ensures ∙ to_z-of_z w32 (at c.args.bins_of.now k) bin_fits in
    let last = (c.requires k there).1 in
    omega (arith, ints, bin, last, c.loop-k.auto.bins)

pub loop-k-preserved : goal.loop-k-preserved
loop-k-preserved c = λ j h.
    let k : ℕ = c.loop-k.k in
    let cs : List ℤ = c.args.bins_of.now in
    let x : ℤ = to_z w32 (of_z w32 c.args.number) in
    let vs : List ℤ = replicate (length cs) x in
    let lo : ℤ = to_z w32 (of_z w32 c.args.lo) in
    let b : ℤ = lo +ℤ pos j in
    let long : length vs ≡ length cs = same_long (length cs) x in
    let there : k < length cs = omega arith in
    let below : k < length vs = omega (arith, long) in
    let inside : j < length c.loop-k.bins = omega (arith, c.accumulate_value_at_bin_place.auto.bins) in
    let bin_fits : FitsSigned w32 (at cs k) = search rules in
    let bin : lo +ℤ pos c.find_place_of_known_bin-place.result ≡ at cs k =
    c.find_place_of_known_bin-place.ensures ∙ to_z-of_z w32 (at cs k) bin_fits in
    let came : at c.accumulate_value_at_bin_place.new.bins j ≡ once_came Sum (int_eq (at cs k) b) (at c.loop-k.bins j) (at vs k) =
    c.accumulate_value_at_bin_place.ensures lo j inside
    ∙ (λ i. once_came Sum (int_eq (bin i) b) (at c.loop-k.bins j) (sym (at_same x (length cs) k there) i)) in
    rw add-one (one_more Sum vs cs b k (at c.loop-k.bins j) (at c.accumulate_value_at_bin_place.new.bins j) _ below (sym long) came
    (c.loop-k.invariant j inside))
