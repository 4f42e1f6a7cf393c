use Rattle.std.proofs.Common.{rules, ℕ, ℤ, ◌+◌, ◌+ℤ◌, ◌*ℤ◌, w32, FitsSigned, ap, sym, ◌∙◌, List, pos, add-zero}
use Rattle.std.proofs.lemmas.Int.{to_z-of_z}
use Rattle.domains.specs.Arithmetic.{wrapped}
use Rattle.row_loops.specs.Rows.{at}
use Rattle.stencil_kernels.specs.Stencil.{tap_sum}
use Rattle.stencil_kernels.proofs.Taps.{zero_wrapped}
use Rattle.stencil_kernels.proofs.Mirrored.{mirrored}
use Rattle.stencil_kernels.proofs.symmetric.SymmetricFactors.sum_symmetric_products.Goals as goal

pub returns : goal.returns
returns c =
    let own = c.self.inside in
    let line = c.args.line.now in
    let k = c.args.k in
    let f : FitsSigned w32 own.outer = search rules in
    let g : FitsSigned w32 own.inner = search rules in
    let h : FitsSigned w32 own.middle = search rules in
    let u : FitsSigned w32 c.add_tap_pair_product-outer.result = search rules in
    let v : FitsSigned w32 c.add_tap_pair_product-inner.result = search rules in
    let w : FitsSigned w32 c.add_tap_product.result = search rules in
    let one = simp to_z-of_z at (c.add_tap_pair_product-outer.ensures (pos 0) zero_wrapped) in
    let two = simp to_z-of_z at (c.add_tap_pair_product-inner.ensures _ (to_z-of_z w32 _ u ∙ one)) in
    let three = simp to_z-of_z at (c.add_tap_product.ensures _ (to_z-of_z w32 _ v ∙ two)) in
    to_z-of_z w32 _ w ∙ three
    ∙ ap wrapped (mirrored own.outer own.inner own.middle (at line k) (at line (k + 1)) (at line (k + 2)) (at line (k + 3)) (at line (k + 4))
    ∙ ap (λ (n : ℕ). pos 0 +ℤ own.outer *ℤ at line n +ℤ own.inner *ℤ at line (k + 1) +ℤ own.middle *ℤ at line (k + 2)
    +ℤ own.inner *ℤ at line (k + 3) +ℤ own.outer *ℤ at line (k + 4)) (sym (add-zero k)))
    ∙ ap (λ (ts : List ℤ). wrapped (tap_sum ts line k)) c.self.view_is
