use Rattle.std.proofs.Common.{rules, ℤ, ◌+ℤ◌, ◌*ℤ◌, w32, FitsSigned, ◌∙◌, ap}
use Rattle.std.proofs.lemmas.Int.{to_z-of_z, int_wrap-mul_right}
use Rattle.domains.specs.Arithmetic.{wrapped}
use Rattle.row_loops.specs.Rows.{at}
use Rattle.stencil_kernels.proofs.Taps.{tap_of_other}
use Rattle.stencil_kernels.proofs.products.add_tap_pair_product.Goals as goal

pub returns : goal.returns
returns c = λ s e.
    let start : FitsSigned w32 c.args.sum = search rules in
    let factor : FitsSigned w32 c.args.factor = search rules in
    let first : FitsSigned w32 (at c.args.line.now c.args.j) = search rules in
    let second : FitsSigned w32 (at c.args.line.now c.args.k) = search rules in
    let both : FitsSigned w32 c.wrapping_add.result = search rules in
    let product : FitsSigned w32 c.wrapping_mul.result = search rules in
    let sum : FitsSigned w32 c.wrapping_add-2.result = search rules in
    let added = simp to_z-of_z at c.wrapping_add.ensures in
    let made = simp to_z-of_z at c.wrapping_mul.ensures in
    let whole = simp to_z-of_z at c.wrapping_add-2.ensures in
    let pair : ℤ = at c.args.line.now c.args.j +ℤ at c.args.line.now c.args.k in
    to_z-of_z w32 _ sum
    ∙ tap_of_other s c.args.sum (c.args.factor *ℤ pair) _ e
    (whole ∙ ap (λ (z : ℤ). wrapped (c.args.sum +ℤ z))
    (made ∙ ap (λ (z : ℤ). wrapped (c.args.factor *ℤ z)) added ∙ int_wrap-mul_right w32 c.args.factor pair))
