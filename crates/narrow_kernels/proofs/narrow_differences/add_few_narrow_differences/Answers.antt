use Rattle.std.proofs.Common.{ℤ, ◌+ℤ◌, ap, refl, ◌∙◌, w16}
use Rattle.std.specs.Int.{int_wrap}
use Rattle.row_loops.specs.Rows.{at}
use Rattle.narrow_kernels.specs.declared.narrow_differences.NarrowClampedDifference.{NarrowClampedDifference}
use Rattle.narrow_kernels.specs.NarrowDifferences.{narrow_difference_at, narrow_difference_sum}
use Rattle.narrow_kernels.proofs.NarrowSums.{same_sum}
use Rattle.narrow_kernels.proofs.narrow_differences.add_few_narrow_differences.Goals as goal

pub returns : goal.returns
returns g c = λ k h.
    c.map_few_narrow_terms.ensures k h
    ∙ ap (λ (z : ℤ). int_wrap w16 (g.S.NarrowTerm.exact c.args.start (at c.args.out.now k) k +ℤ z))
    (same_sum (λ (d : NarrowClampedDifference). narrow_difference_at d k) (λ differences. narrow_difference_sum differences k) refl (λ x xs. refl)
    c.args.differences.now)
