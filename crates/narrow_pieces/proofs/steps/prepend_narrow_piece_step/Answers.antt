use Rattle.std.proofs.Common.{rules, ℤ, ◌≡◌, ◌+ℤ◌, w16, FitsSigned, IfSome, subst}
use Rattle.std.proofs.lemmas.Int.{to_z-of_z}
use Rattle.narrow_kernels.specs.declared.narrow_affine_map.NarrowAffineMap.{NarrowAffineMap}
use Rattle.narrow_kernels.specs.NarrowAffine.{affine_value, FitsAffine}
use Rattle.narrow_pieces.proofs.steps.prepend_narrow_piece_step.Goals as goal

pub returns-in-Add-clause-value : goal.returns-in-Add-clause-value
returns-in-Add-clause-value c =
    let map = c.args.map in
    let given : FitsSigned w16 c.in-Add.number = search rules in
    rw c.in-Add.is
    (subst (λ (n : ℤ). IfSome c.prepend_narrow_addition.result (λ (it : NarrowAffineMap). (x : ℤ)
    → affine_value it.factor it.addend it.bits it.offset x ≡ affine_value map.factor map.addend map.bits map.offset (x +ℤ n)))
    (to_z-of_z w16 _ given) c.prepend_narrow_addition.ensures.value)

pub returns-in-Add-clause-fits : goal.returns-in-Add-clause-fits
returns-in-Add-clause-fits c =
    let map = c.args.map in
    let given : FitsSigned w16 c.in-Add.number = search rules in
    rw c.in-Add.is
    (subst (λ (n : ℤ). IfSome c.prepend_narrow_addition.result (λ (it : NarrowAffineMap). (x : ℤ) → FitsSigned w16 x
    → FitsAffine map.factor map.addend map.bits map.offset (x +ℤ n) → FitsAffine it.factor it.addend it.bits it.offset x))
    (to_z-of_z w16 _ given) c.prepend_narrow_addition.ensures.fits)

pub returns-in-Shift-clause-value : goal.returns-in-Shift-clause-value
returns-in-Shift-clause-value c = rw c.in-Shift.is c.prepend_narrow_right_shift.ensures.value
