use Rattle.std.proofs.Common.{◌≡◌, neg_ℤ, take, w16}
use Rattle.std.specs.Int.{int_wrap}
use Rattle.narrow_kernels.specs.NarrowNearTaps.{factor_sum}
use Rattle.narrow_kernels.proofs.narrow_centers.negate_sum_of_narrow_tap_factors.Given as goal

abbrev pub invariant-loop-tap : goal.invariant-loop-tap
invariant-loop-tap l = l.sum ≡ int_wrap w16 (neg_ℤ (factor_sum (take l.tap-index l.taps)))
