use Rattle.std.proofs.Common.{rules, ◌+ℤ◌, ◌<◌, length, w16, FitsSigned, sym, subst, ℤ, to_z, of_z}
use Rattle.std.proofs.lemmas.Int.{to_z-of_z}
use Rattle.row_loops.specs.Rows.{at}
use Rattle.narrow_kernels.specs.NarrowMeans.{column_sum, IsColumnSum}
use Rattle.narrow_kernels.proofs.NarrowMeans.{sums_more}
use Rattle.narrow_kernels.proofs.narrow_means.write_narrow_column_sums.Goals as goal

pub loop-k-preserved : goal.loop-k-preserved
loop-k-preserved c =
    let k = c.loop-k.k in
    let short : k < length c.loop-k.ninths = search rules in
    let too : k < length c.loop-k.rests = search rules in
    let high = c.add_three_narrow_numbers-ninth.result.0 in
    let low = c.add_three_narrow_numbers-ninth.result.1 in
    let high_fits : FitsSigned w16 high = search rules in
    let low_fits : FitsSigned w16 low = search rules in
    let first : FitsSigned w16 (at c.args.a.now k) = search rules in
    let second : FitsSigned w16 (at c.args.b.now k) = search rules in
    let third : FitsSigned w16 (at c.args.c.now k) = search rules in
    let is : IsColumnSum (column_sum c.args.a.now c.args.b.now c.args.c.now k) (to_z w16 (of_z w16 high)) (to_z w16 (of_z w16 low)) =
    subst (λ (v : ℤ). IsColumnSum (column_sum c.args.a.now c.args.b.now c.args.c.now k) v (to_z w16 (of_z w16 low))) (sym (to_z-of_z w16 _ high_fits))
    (subst (λ (v : ℤ). IsColumnSum (column_sum c.args.a.now c.args.b.now c.args.c.now k) high v) (sym (to_z-of_z w16 _ low_fits))
    (subst (λ (v : ℤ). IsColumnSum v high low)
    (λ i. to_z-of_z w16 _ first i +ℤ to_z-of_z w16 _ second i +ℤ to_z-of_z w16 _ third i)
    c.add_three_narrow_numbers-ninth.ensures)) in
    sums_more (column_sum c.args.a.now c.args.b.now c.args.c.now) _ _ k _ _ short too is c.loop-k.invariant
