use Rattle.narrow_kernels.proofs.NarrowReciprocals.{shift_fits, computed_divides}
use Rattle.narrow_kernels.proofs.narrow_quotients.NarrowReciprocal.new.Goals as goal

pub invariant_of-result-clause-few : goal.invariant_of-result-clause-few
invariant_of-result-clause-few c =
    let bits = c.ilog2-shift.ensures in
    shift_fits c.args.divisor c.ilog2-shift.result c.requires.least c.requires.most bits.power_le bits.next_power_gt

pub invariant_of-result-clause-exact : goal.invariant_of-result-clause-exact
invariant_of-result-clause-exact c =
    let bits = c.ilog2-shift.ensures in
    computed_divides c.args.divisor c.ilog2-shift.result c.requires.least c.requires.most bits.power_le bits.next_power_gt
