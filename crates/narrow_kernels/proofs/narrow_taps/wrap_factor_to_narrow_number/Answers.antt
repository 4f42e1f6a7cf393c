use Rattle.std.proofs.Common.{arith, rules, pos, w32, FitsSigned}
use Rattle.std.proofs.lemmas.Int.{ints, to_z-of_z}
use Rattle.domains.proofs.Floors.{floor_splits}
use Rattle.narrow_kernels.proofs.NarrowWraps.{wrap_of_low, wrap_of_high}
use Rattle.narrow_kernels.proofs.narrow_taps.wrap_factor_to_narrow_number.Goals as goal

pub returns-then-rest-lt32768 : goal.returns-then-rest-lt32768
returns-then-rest-lt32768 c =
    let fits : FitsSigned w32 c.args.factor = search rules in
    let e = simp to_z-of_z at c.floor_rem-rest.ensures in
    let f = floor_splits c.args.factor (pos 65536) (omega (arith, ints)) in
    let low = f.least in
    let here = wrap_of_low c.args.factor c.floor_rem-rest.result e (omega (arith, ints, low)) (omega (arith, ints)) in
    grind (arith, ints, here)

pub returns-else-rest-lt32768 : goal.returns-else-rest-lt32768
returns-else-rest-lt32768 c =
    let fits : FitsSigned w32 c.args.factor = search rules in
    let e = simp to_z-of_z at c.floor_rem-rest.ensures in
    let f = floor_splits c.args.factor (pos 65536) (omega (arith, ints)) in
    let high = f.below in
    let here = wrap_of_high c.args.factor c.floor_rem-rest.result e (omega (arith, ints)) (omega (arith, ints, high)) in
    grind (arith, ints, here)
