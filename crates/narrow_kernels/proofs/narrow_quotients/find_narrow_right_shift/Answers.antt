use Rattle.std.proofs.Common.{arith, rules, ◌≡◌, ◌≤◌, ◌^◌}
use Rattle.narrow_kernels.proofs.NarrowReciprocals.{power_shifts, lt_of_pow}
use Rattle.narrow_kernels.proofs.narrow_quotients.find_narrow_right_shift.Goals as goal

pub invariant_of-result-then-divisor-bits-clause-few : goal.invariant_of-result-then-divisor-bits-clause-few
invariant_of-result-then-divisor-bits-clause-few c =
    let least : 2 ^ c.ilog2-bits.result ≤ c.args.divisor = c.ilog2-bits.ensures.power_le in
    lt_of_pow c.ilog2-bits.result (omega (arith, least))

pub invariant_of-result-then-divisor-bits-clause-exact : goal.invariant_of-result-then-divisor-bits-clause-exact
invariant_of-result-then-divisor-bits-clause-exact c =
    let power : c.args.divisor ≡ 2 ^ c.ilog2-bits.result = search rules in
    power_shifts c.args.divisor c.ilog2-bits.result power
