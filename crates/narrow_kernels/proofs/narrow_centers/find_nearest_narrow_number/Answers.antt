use Rattle.std.proofs.Common.{rules, ◌≡◌, ℤ, pos, negsuc, ◌+ℤ◌, to_z, of_z, w16, FitsSigned, ap, ◌∙◌}
use Rattle.std.specs.Int.{int_min, int_max}
use Rattle.std.proofs.lemmas.Int.{to_z-of_z}
use Rattle.domains.specs.Arithmetic.{clamped}
use Rattle.narrow_kernels.proofs.NarrowCenters.{nearest_number}
use Rattle.narrow_kernels.proofs.narrow_centers.find_nearest_narrow_number.Goals as goal

pub returns : goal.returns
returns c =
    let number : FitsSigned w16 c.args.number = search rules in
    let center : FitsSigned w16 c.args.center = search rules in
    let low : FitsSigned w16 c.add_saturating_narrow_numbers.result = search rules in
    let high : FitsSigned w16 c.add_saturating_narrow_numbers-2.result = search rules in
    let least : FitsSigned w16 c.max.result = search rules in
    let fits : FitsSigned w16 c.min.result = search rules in
    let own : to_z w16 (of_z w16 c.args.center) ≡ c.args.center = to_z-of_z w16 c.args.center center in
    let by_low : to_z w16 (of_z w16 c.args.low) ≡ c.args.low = to_z-of_z w16 c.args.low (search rules) in
    let by_high : to_z w16 (of_z w16 c.args.high) ≡ c.args.high = to_z-of_z w16 c.args.high (search rules) in
    let kept : ℤ → ℤ = λ z. clamped z (negsuc 32767) (pos 32767) in
    let most : ℤ = to_z w16 (of_z w16 c.add_saturating_narrow_numbers-2.result) in
    to_z-of_z w16 c.min.result fits ∙ c.min.ensures.value
    ∙ ap (λ (z : ℤ). int_min z most)
    (to_z-of_z w16 c.max.result least ∙ c.max.ensures.value
    ∙ ap (λ (z : ℤ). int_max z (to_z w16 (of_z w16 c.add_saturating_narrow_numbers.result))) (to_z-of_z w16 c.args.number number))
    ∙ nearest_number c.args.number c.args.center c.args.low c.args.high _ most number center c.requires.low c.requires.high
    (to_z-of_z w16 c.add_saturating_narrow_numbers.result low ∙ c.add_saturating_narrow_numbers.ensures ∙ ap kept (λ i. own i +ℤ by_low i))
    (to_z-of_z w16 c.add_saturating_narrow_numbers-2.result high ∙ c.add_saturating_narrow_numbers-2.ensures ∙ ap kept (λ i. own i +ℤ by_high i))
