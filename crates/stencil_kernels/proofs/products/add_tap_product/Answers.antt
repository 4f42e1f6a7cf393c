use Rattle.std.proofs.Common.{rules, ◌+ℤ◌, ◌*ℤ◌, w32, FitsSigned, ◌∙◌}
use Rattle.std.proofs.lemmas.Int.{to_z-of_z}
use Rattle.domains.specs.Arithmetic.{wrapped}
use Rattle.row_loops.specs.Rows.{at}
use Rattle.stencil_kernels.proofs.Taps.{tap_of_other}
use Rattle.stencil_kernels.proofs.products.add_tap_product.Goals as goal

pub returns : goal.returns
returns c = λ s e.
    let start : FitsSigned w32 c.args.sum = search rules in
    let factor : FitsSigned w32 c.args.factor = search rules in
    let number : FitsSigned w32 (at c.args.line.now c.args.k) = search rules in
    let product : FitsSigned w32 c.wrapping_mul.result = search rules in
    let sum : FitsSigned w32 c.wrapping_add.result = search rules in
    let made = simp to_z-of_z at c.wrapping_mul.ensures in
    let whole = simp to_z-of_z at c.wrapping_add.ensures in
    to_z-of_z w32 _ sum
    ∙ tap_of_other s c.args.sum (c.args.factor *ℤ at c.args.line.now c.args.k) _ e (whole ∙ (λ i. wrapped (c.args.sum +ℤ made i)))
