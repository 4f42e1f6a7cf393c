use Rattle.std.proofs.Common.{rules, ℤ, ◌≡◌, ◌+ℤ◌, ◌*ℤ◌, ap, ◌∙◌, w16, FitsSigned}
use Rattle.std.specs.Int.{int_wrap}
use Rattle.std.proofs.lemmas.Int.{to_z-of_z, int_wrap-mul_right}
use Rattle.narrow_kernels.specs.NarrowNearTaps.{near_line_at}
use Rattle.narrow_kernels.proofs.NarrowWraps.{wrapped_sum}
use Rattle.narrow_kernels.proofs.narrow_centers.NarrowNearQuadNarrowTerm.compute_narrow_term_at_place.Goals as goal

pub returns : goal.returns
returns c =
    let quad = c.args.self.now in
    let k = c.args.k in
    let factor : FitsSigned w16 quad.factor = search rules in
    let one : FitsSigned w16 c.find_nearest_narrow_number.result = search rules in
    let two : FitsSigned w16 c.find_nearest_narrow_number-2.result = search rules in
    let three : FitsSigned w16 c.find_nearest_narrow_number-3.result = search rules in
    let four : FitsSigned w16 c.find_nearest_narrow_number-4.result = search rules in
    let front_fits : FitsSigned w16 c.add_wrapping_narrow_numbers-front.result = search rules in
    let back_fits : FitsSigned w16 c.add_wrapping_narrow_numbers-back.result = search rules in
    let all_fits : FitsSigned w16 c.add_wrapping_narrow_numbers.result = search rules in
    let fits : FitsSigned w16 c.multiply_wrapping_narrow_numbers.result = search rules in
    let a : c.find_nearest_narrow_number.result ≡ near_line_at quad.center quad.a.now k = search rules in
    let b : c.find_nearest_narrow_number-2.result ≡ near_line_at quad.center quad.b.now k = search rules in
    let d : c.find_nearest_narrow_number-3.result ≡ near_line_at quad.center quad.c.now k = search rules in
    let e : c.find_nearest_narrow_number-4.result ≡ near_line_at quad.center quad.d.now k = search rules in
    let front = simp to_z-of_z at c.add_wrapping_narrow_numbers-front.ensures in
    let back = simp to_z-of_z at c.add_wrapping_narrow_numbers-back.ensures in
    let all = simp to_z-of_z at c.add_wrapping_narrow_numbers.ensures in
    let product = simp to_z-of_z at c.multiply_wrapping_narrow_numbers.ensures in
    let sum =
    all ∙ wrapped_sum c.add_wrapping_narrow_numbers-front.result c.add_wrapping_narrow_numbers-back.result _ _
    (front ∙ (λ i. int_wrap w16 (a i +ℤ b i))) (back ∙ (λ i. int_wrap w16 (d i +ℤ e i))) in
    to_z-of_z w16 c.multiply_wrapping_narrow_numbers.result fits ∙ product
    ∙ ap (λ (z : ℤ). int_wrap w16 (quad.factor *ℤ z)) sum
    ∙ int_wrap-mul_right w16 quad.factor _
