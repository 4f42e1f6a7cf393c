use Rattle.std.proofs.Common.{arith, rules, ℕ, ◌≡◌, ◌*◌, ◌+ℤ◌, ◌-ℤ◌, ◌≤ℤ◌, pos, to_z, w32, FitsSigned, ap}
use Rattle.std.proofs.lemmas.Int.{ints, to_z-of_z}
use Rattle.value_ranges.specs.Narrow.{steps_before_division}
use Rattle.value_ranges.proofs.kernels.is_narrow_range_before_division.Goals as goal

pub returns-then-less-range : goal.returns-then-less-range
returns-then-less-range c = λ high v is.
    let most = c.count_narrow_steps_before_division.ensures.sum in
    let less : to_z w32 (c.count_narrow_steps_before_division.result * c.args.divisor) ≡ pos (c.count_narrow_steps_before_division.result * c.args.divisor) = omega (arith, ints, most) in
    let same : c.count_narrow_steps_before_division.result * c.args.divisor ≡ steps_before_division c.args.divisor * c.args.divisor =
    ap (λ (n : ℕ). n * c.args.divisor) c.count_narrow_steps_before_division.ensures.steps in
    let low_fits : FitsSigned w32 c.args.range.lo = search rules in
    let high_fits : FitsSigned w32 c.args.range.hi = search rules in
    let bottom : (pos (c.count_narrow_steps_before_division.result * c.args.divisor) -ℤ pos 32768) ≤ℤ c.args.range.lo =
    grind (arith, ints, to_z-of_z, less, most, c.if-less-range.true) in
    let top : c.args.range.hi ≤ℤ (pos (c.count_narrow_steps_before_division.result * c.args.divisor) +ℤ pos 32767) =
    grind (arith, ints, to_z-of_z, less, most, high) in
    let low = is.low in
    let up = is.high in
    omega (arith, ints, bottom, top, low, up, same)
