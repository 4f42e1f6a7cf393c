use Rattle.std.proofs.Common.{rules, ◌≡◌, ◌+◌, ◌<◌, length, w16, FitsSigned, ◌∙◌}
use Rattle.std.proofs.lemmas.Int.{to_z-of_z}
use Rattle.row_loops.specs.Rows.{at}
use Rattle.row_loops.proofs.Writing.{EachPlace-more}
use Rattle.narrow_kernels.specs.NarrowMeans.{mean_of_column_parts}
use Rattle.narrow_kernels.proofs.narrow_means.write_narrow_means_of_column_sums.Goals as goal

pub loop-k-preserved : goal.loop-k-preserved
loop-k-preserved c =
    let k = c.loop-k.k in
    let ninths = c.args.ninths.now in
    let rests = c.args.rests.now in
    let lt : k < length c.loop-k.out = search rules in
    let fits : FitsSigned w16 c.compute_narrow_mean_of_parts.result = search rules in
    let q : FitsSigned w16 (at ninths k) = search rules in
    let q1 : FitsSigned w16 (at ninths (k + 1)) = search rules in
    let q2 : FitsSigned w16 (at ninths (k + 2)) = search rules in
    let r : FitsSigned w16 (at rests k) = search rules in
    let r1 : FitsSigned w16 (at rests (k + 1)) = search rules in
    let r2 : FitsSigned w16 (at rests (k + 2)) = search rules in
    let mean : c.compute_narrow_mean_of_parts.result ≡ mean_of_column_parts ninths rests k = simp to_z-of_z at c.compute_narrow_mean_of_parts.ensures in
    EachPlace-more (mean_of_column_parts ninths rests) _ _ _ lt (to_z-of_z w16 _ fits ∙ mean) c.loop-k.invariant
