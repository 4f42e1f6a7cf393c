use Rattle.std.proofs.Common.{arith, rules, take, ◌+◌, ◌<◌, ◌≡◌, length, slice_set}
use Rattle.row_loops.specs.Rows.{at}
use Rattle.narrow_kernels.specs.NarrowTaps.{tap_sum}
use Rattle.narrow_kernels.specs.NarrowDifferences.{narrow_difference_at, narrow_difference_sum}
use Rattle.narrow_sums.proofs.NarrowAddends.{more_differences, more_difference_lines, one_more_difference}
use Rattle.narrow_sums.proofs.narrow_sum.NarrowSum.push_narrow_sum_difference.Goals as goal

pub returns-clause-sum : goal.returns-clause-sum
returns-clause-sum c = λ f h k l.
    let space = c.add_narrow_sum_differences_if_many.ensures.space in
    let four : length c.add_narrow_sum_differences_if_many.new.self.differences ≡ 4 = c.add_narrow_sum_differences_if_many.ensures.addends.space.differences in
    let lt : c.add_narrow_sum_differences_if_many.new.self.difference_count < length c.add_narrow_sum_differences_if_many.new.self.differences = omega (arith, space, four) in
    one_more_difference (f k) (tap_sum (take c.add_narrow_sum_differences_if_many.new.self.tap_count c.add_narrow_sum_differences_if_many.new.self.taps) k)
    (narrow_difference_sum (take c.add_narrow_sum_differences_if_many.new.self.difference_count c.add_narrow_sum_differences_if_many.new.self.differences) k) (narrow_difference_at c.args.difference k)
    (narrow_difference_sum (take (c.add_narrow_sum_differences_if_many.new.self.difference_count + 1)
    (slice_set c.add_narrow_sum_differences_if_many.new.self.differences c.add_narrow_sum_differences_if_many.new.self.difference_count c.args.difference)) k)
    c.add_narrow_sum_differences_if_many.new.self.is_written (at c.add_narrow_sum_differences_if_many.new.out k)
    (more_differences c.add_narrow_sum_differences_if_many.new.self.differences c.add_narrow_sum_differences_if_many.new.self.difference_count c.args.difference k lt) (c.add_narrow_sum_differences_if_many.ensures.sum f h k l)

pub returns-clause-addends : goal.returns-clause-addends
returns-clause-addends c =
    let space = c.add_narrow_sum_differences_if_many.ensures.space in
    let four : length c.add_narrow_sum_differences_if_many.new.self.differences ≡ 4 = c.add_narrow_sum_differences_if_many.ensures.addends.space.differences in
    let lt : c.add_narrow_sum_differences_if_many.new.self.difference_count < length c.add_narrow_sum_differences_if_many.new.self.differences = omega (arith, space, four) in
    let before = c.add_narrow_sum_differences_if_many.ensures.addends in
    record {
      space = search rules;
      tap_count = before.tap_count;
      taps = before.taps;
      difference_count = omega (arith, space);
      differences = more_difference_lines _ c.add_narrow_sum_differences_if_many.new.self.differences c.add_narrow_sum_differences_if_many.new.self.difference_count c.args.difference lt before.differences
          c.requires.left c.requires.right;
    }
