use Rattle.std.proofs.Common.{arith, rules, take, ◌+◌, ◌<◌, ◌≡◌, length, slice_set}
use Rattle.row_loops.specs.Rows.{at}
use Rattle.narrow_kernels.specs.NarrowTaps.{tap_sum, tap_at}
use Rattle.narrow_kernels.specs.NarrowDifferences.{narrow_difference_sum}
use Rattle.narrow_sums.proofs.NarrowAddends.{more_taps, more_tap_lines, one_more}
use Rattle.narrow_sums.proofs.narrow_sum.NarrowSum.push_narrow_sum_tap.Goals as goal

pub returns-clause-sum : goal.returns-clause-sum
returns-clause-sum c = λ f h k l.
    let space = c.add_narrow_sum_taps_if_many.ensures.space in
    let nine : length c.add_narrow_sum_taps_if_many.new.self.taps ≡ 9 = c.add_narrow_sum_taps_if_many.ensures.addends.space.taps in
    let lt : c.add_narrow_sum_taps_if_many.new.self.tap_count < length c.add_narrow_sum_taps_if_many.new.self.taps = omega (arith, space, nine) in
    one_more (f k) (tap_sum (take c.add_narrow_sum_taps_if_many.new.self.tap_count c.add_narrow_sum_taps_if_many.new.self.taps) k)
    (narrow_difference_sum (take c.add_narrow_sum_taps_if_many.new.self.difference_count c.add_narrow_sum_taps_if_many.new.self.differences) k) (tap_at c.args.tap k)
    (tap_sum (take (c.add_narrow_sum_taps_if_many.new.self.tap_count + 1) (slice_set c.add_narrow_sum_taps_if_many.new.self.taps c.add_narrow_sum_taps_if_many.new.self.tap_count c.args.tap)) k)
    c.add_narrow_sum_taps_if_many.new.self.is_written (at c.add_narrow_sum_taps_if_many.new.out k)
    (more_taps c.add_narrow_sum_taps_if_many.new.self.taps c.add_narrow_sum_taps_if_many.new.self.tap_count c.args.tap k lt) (c.add_narrow_sum_taps_if_many.ensures.sum f h k l)

pub returns-clause-addends : goal.returns-clause-addends
returns-clause-addends c =
    let space = c.add_narrow_sum_taps_if_many.ensures.space in
    let nine : length c.add_narrow_sum_taps_if_many.new.self.taps ≡ 9 = c.add_narrow_sum_taps_if_many.ensures.addends.space.taps in
    let lt : c.add_narrow_sum_taps_if_many.new.self.tap_count < length c.add_narrow_sum_taps_if_many.new.self.taps = omega (arith, space, nine) in
    let before = c.add_narrow_sum_taps_if_many.ensures.addends in
    record {
      space = search rules;
      tap_count = omega (arith, space);
      taps = more_tap_lines _ c.add_narrow_sum_taps_if_many.new.self.taps c.add_narrow_sum_taps_if_many.new.self.tap_count c.args.tap lt before.taps c.requires.tap;
      difference_count = before.difference_count;
      differences = before.differences;
    }
