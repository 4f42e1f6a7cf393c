use Rattle.std.proofs.Common.{rules, ℤ, ◌+ℤ◌, pos, ap, ◌∙◌, w16, FitsSigned}
use Rattle.std.specs.Int.{int_wrap}
use Rattle.std.proofs.Math.IntN.{+ℤ_assoc, +ℤ_comm}
use Rattle.std.proofs.lemmas.Int.{to_z-of_z}
use Rattle.row_loops.specs.Rows.{at}
use Rattle.domains.specs.Arithmetic.{floor_div}
use Rattle.narrow_kernels.proofs.narrow_divided_sums.add_and_divide_narrow_tap_sums.Goals as goal

pub returns : goal.returns
returns c = λ k h.
    let number : FitsSigned w16 c.args.number = search rules in
    let made = simp to_z-of_z at c.divide_narrow_tap_sums.ensures in
    made k h
    ∙ ap (λ (z : ℤ). floor_div (int_wrap w16 z) (pos c.args.divisor))
    (+ℤ_assoc (at c.args.out.now k) c.args.number _ ∙ ap (λ (z : ℤ). at c.args.out.now k +ℤ z) (+ℤ_comm c.args.number _))
