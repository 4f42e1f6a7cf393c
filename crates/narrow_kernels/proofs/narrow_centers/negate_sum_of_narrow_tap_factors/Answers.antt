use Rattle.std.proofs.Common.{rules, ◌<◌, ◌-ℤ◌, ℤ, length, get_or, to_z, ap, ◌∙◌, w16, FitsSigned}
use Rattle.std.specs.Int.{int_wrap}
use Rattle.std.proofs.lemmas.Int.{to_z-of_z}
use Rattle.narrow_kernels.proofs.NarrowCenters.{one_more_factor}
use Rattle.narrow_kernels.proofs.narrow_centers.negate_sum_of_narrow_tap_factors.Goals as goal

pub loop-tap-preserved : goal.loop-tap-preserved
loop-tap-preserved c =
    let fits : FitsSigned w16 c.subtract_wrapping_narrow_numbers-sum.result = search rules in
    let lt : c.loop-tap.tap-index < length c.args.taps.now = search rules in
    to_z-of_z w16 c.subtract_wrapping_narrow_numbers-sum.result fits ∙ c.subtract_wrapping_narrow_numbers-sum.ensures
    ∙ ap (λ (z : ℤ). int_wrap w16 (to_z w16 c.loop-tap.sum-bits -ℤ z)) (to_z-of_z w16 (get_or c.args.taps.now c.loop-tap.tap-index _).factor (search rules))
    ∙ one_more_factor c.args.taps.now c.loop-tap.tap-index _ _ lt c.loop-tap.invariant
