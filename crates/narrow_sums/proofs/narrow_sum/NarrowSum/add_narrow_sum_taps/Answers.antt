use Rattle.std.proofs.Common.{take}
use Rattle.row_loops.specs.Rows.{at}
use Rattle.narrow_kernels.specs.NarrowTaps.{tap_sum}
use Rattle.narrow_kernels.specs.NarrowDifferences.{narrow_difference_sum}
use Rattle.narrow_sums.proofs.NarrowAddends.{taps_taken}
use Rattle.narrow_sums.proofs.narrow_sum.NarrowSum.add_narrow_sum_taps.Goals as goal

pub returns-clause-sum : goal.returns-clause-sum
returns-clause-sum c = λ f h k l.
    taps_taken (f k) (tap_sum (take c.args.self.now.tap_count c.args.self.now.taps) k)
    (narrow_difference_sum (take c.args.self.now.difference_count c.args.self.now.differences) k) c.args.self.now.is_written
    (at c.args.out.now k) _ (h k l) (c.add_narrow_sum_taps_to_row.ensures k l)
