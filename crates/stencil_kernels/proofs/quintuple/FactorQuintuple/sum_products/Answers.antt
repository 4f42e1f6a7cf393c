use Rattle.std.proofs.Common.{rules, ℕ, ℤ, ◌+ℤ◌, ◌*ℤ◌, w32, FitsSigned, ap, sym, ◌∙◌, List, pos, add-zero}
use Rattle.std.proofs.lemmas.Int.{to_z-of_z}
use Rattle.domains.specs.Arithmetic.{wrapped}
use Rattle.row_loops.specs.Rows.{at}
use Rattle.stencil_kernels.specs.Stencil.{tap_sum}
use Rattle.stencil_kernels.proofs.Taps.{zero_wrapped}
use Rattle.stencil_kernels.proofs.quintuple.FactorQuintuple.sum_products.Goals as goal

pub returns : goal.returns
returns c =
    let f : FitsSigned w32 c.self.inside.first = search rules in
    let g : FitsSigned w32 c.self.inside.second = search rules in
    let h : FitsSigned w32 c.self.inside.third = search rules in
    let i : FitsSigned w32 c.self.inside.fourth = search rules in
    let j : FitsSigned w32 c.self.inside.fifth = search rules in
    let u : FitsSigned w32 c.add_tap_product-one.result = search rules in
    let v : FitsSigned w32 c.add_tap_product-two.result = search rules in
    let w : FitsSigned w32 c.add_tap_product-three.result = search rules in
    let x : FitsSigned w32 c.add_tap_product-four.result = search rules in
    let y : FitsSigned w32 c.add_tap_product.result = search rules in
    let first = simp to_z-of_z at (c.add_tap_product-one.ensures (pos 0) zero_wrapped) in
    let one = first ∙ ap (λ (n : ℕ). wrapped (pos 0 +ℤ c.self.inside.first *ℤ at c.args.line.now n)) (sym (add-zero c.args.k)) in
    let two = simp to_z-of_z at (c.add_tap_product-two.ensures _ (to_z-of_z w32 _ u ∙ one)) in
    let three = simp to_z-of_z at (c.add_tap_product-three.ensures _ (to_z-of_z w32 _ v ∙ two)) in
    let four = simp to_z-of_z at (c.add_tap_product-four.ensures _ (to_z-of_z w32 _ w ∙ three)) in
    let five = simp to_z-of_z at (c.add_tap_product.ensures _ (to_z-of_z w32 _ x ∙ four)) in
    to_z-of_z w32 _ y ∙ five ∙ ap (λ (ts : List ℤ). wrapped (tap_sum ts c.args.line.now c.args.k)) c.self.view_is
