use Rattle.std.proofs.Common.{rules, Bool, ℤ, pos, ap, refl, subst, ◌∙◌, w16, FitsSigned}
use Rattle.std.proofs.lemmas.Int.{to_z-of_z}
use Rattle.domains.specs.Arithmetic.{floor_div}
use Rattle.row_loops.specs.Rows.{at}
use Rattle.narrow_kernels.proofs.NarrowWraps.{wrapped_left}
use Rattle.narrow_sums.specs.NarrowSums.{IsRest}
use Rattle.narrow_sums.proofs.NarrowAddends.{written_from_nothing}
use Rattle.narrow_sums.proofs.narrow_sum.divide_narrow_sum_of_row.Goals as goal

pub returns-then-is_written : goal.returns-then-is_written
returns-then-is_written c = λ k l rest h.
    let number : FitsSigned w16 c.args.number = search rules in
    let made = simp to_z-of_z at c.add_and_divide_narrow_tap_sums.ensures in
    made k l
    ∙ ap (λ (z : ℤ). floor_div z (pos c.args.divisor))
    (wrapped_left _ rest _ (subst (λ (b : Bool). IsRest b (at c.args.out.now k) rest) c.if-is_written.true h))

pub returns-else-is_written : goal.returns-else-is_written
returns-else-is_written c = λ k l rest h.
    let number : FitsSigned w16 c.args.number = search rules in
    let made = simp to_z-of_z at c.write_divided_narrow_tap_sums.ensures in
    made k l
    ∙ ap (λ (z : ℤ). floor_div z (pos c.args.divisor))
    (written_from_nothing rest _ _ (subst (λ (b : Bool). IsRest b (at c.args.out.now k) rest) c.if-is_written.false h) refl)
