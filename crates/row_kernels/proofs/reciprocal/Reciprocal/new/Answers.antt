use Rattle.row_kernels.proofs.Reciprocals.{computed_fits, computed_divides}
use Rattle.row_kernels.proofs.reciprocal.Reciprocal.new.Goals as goal

pub overflow_cast-result : goal.overflow_cast-result
overflow_cast-result c =
    let bits = c.ilog2-shift.ensures in
    record {
      fits =
          computed_fits c.args.divisor c.ilog2-shift.result c.from.result c.requires.least c.requires.most bits.bound bits.power_le
          bits.next_power_gt c.from.ensures;
    }

pub invariant_of-result-clause-exact : goal.invariant_of-result-clause-exact
invariant_of-result-clause-exact c =
    let bits = c.ilog2-shift.ensures in
    computed_divides c.args.divisor c.ilog2-shift.result c.from.result c.requires.least c.requires.most bits.bound bits.power_le
    bits.next_power_gt c.from.ensures
