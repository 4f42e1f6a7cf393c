use Rattle.std.proofs.Common.{arith, rules, ◌≡◌, length, take, w16, FitsSigned}
use Rattle.std.proofs.lemmas.Int.{to_z-of_z}
use Rattle.row_loops.specs.Rows.{at}
use Rattle.narrow_kernels.specs.NarrowTaps.{tap_sum}
use Rattle.narrow_kernels.specs.NarrowDifferences.{narrow_difference_sum}
use Rattle.narrow_sums.proofs.NarrowAddends.{divided, no_differences}
use Rattle.narrow_sums.proofs.narrow_sum.NarrowSum.divide_narrow_sum.Goals as goal

pub returns : goal.returns
returns c = λ f h k l.
    let sum = c.add_narrow_sum_differences_if_any.new.self in
    let len : length c.add_narrow_sum_differences_if_any.new.out ≡ length c.args.out.now = c.add_narrow_sum_differences_if_any.auto.out in
    let number : FitsSigned w16 c.args.number = search rules in
    let made = simp to_z-of_z at c.divide_narrow_sum_of_row.ensures in
    divided (f k) (tap_sum (take sum.tap_count sum.taps) k) (narrow_difference_sum (take sum.difference_count sum.differences) k)
    c.args.number sum.is_written (at c.add_narrow_sum_differences_if_any.new.out k) _ c.args.divisor
    (no_differences sum k c.add_narrow_sum_differences_if_any.ensures.differences)
    (c.add_narrow_sum_differences_if_any.ensures.sum f h k l)
    (made k (omega (arith, len, l)))
