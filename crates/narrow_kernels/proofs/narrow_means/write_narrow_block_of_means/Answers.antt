use Rattle.std.proofs.Common.{arith, ◌<◌, ◌+◌, length, ◌∙◌}
use Rattle.row_loops.specs.Rows.{at}
use Rattle.narrow_kernels.proofs.NarrowMeans.{exact_mean}
use Rattle.narrow_kernels.proofs.narrow_means.write_narrow_block_of_means.Goals as goal

pub returns : goal.returns
returns c = λ k h.
    let sums = c.write_narrow_column_sums.ensures in
    let ninths = c.write_narrow_column_sums.new.ninths in
    let rests = c.write_narrow_column_sums.new.rests in
    let here : k < length c.args.out.now = omega (arith, h, c.write_narrow_means_of_column_sums.auto.out) in
    let count : k + 2 < length c.args.ninths.now = omega (arith, here, c.requires.ninths) in
    c.write_narrow_means_of_column_sums.ensures k here
    ∙ exact_mean _ _ _ (at ninths k) (at ninths (k + 1)) (at ninths (k + 2)) (at rests k) (at rests (k + 1)) (at rests (k + 2))
    (sums k (omega arith)) (sums (k + 1) (omega arith)) (sums (k + 2) (omega arith))
