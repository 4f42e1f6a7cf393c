use Rattle.std.proofs.Common.{rules, ◌≡◌, ◌<◌, ◌+ℤ◌, ℤ, length, ap, refl, ◌∙◌, w16}
use Rattle.std.specs.Int.{int_wrap}
use Rattle.std.proofs.Math.IntN.{+ℤ_assoc}
use Rattle.row_loops.specs.Rows.{at}
use Rattle.narrow_kernels.specs.declared.narrow_differences.NarrowClampedDifference.{NarrowClampedDifference}
use Rattle.narrow_kernels.specs.NarrowDifferences.{narrow_difference_at, narrow_difference_sum}
use Rattle.narrow_kernels.proofs.NarrowSums.{sum_split}
use Rattle.narrow_kernels.proofs.NarrowWraps.{wrapped_left}
use Rattle.narrow_kernels.proofs.narrow_differences.+add_narrow_difference_sums.Goals as goal

pub returns : goal.returns
returns t c = λ k h s e.
    let inside : k < length c.add_few_narrow_differences.new.out = search rules in
    let first = narrow_difference_sum c.split_at.result.0.now k in
    let front : at c.add_few_narrow_differences.new.out k ≡ int_wrap w16 (s +ℤ first) =
    c.add_few_narrow_differences.ensures k h ∙ wrapped_left _ s _ e in
    c.add_narrow_difference_sums.ensures k inside _ front
    ∙ ap (int_wrap w16) (+ℤ_assoc s first _ ∙ ap (λ (z : ℤ). s +ℤ z) (sum_split (λ (d : NarrowClampedDifference). narrow_difference_at d k) (λ differences. narrow_difference_sum differences k) refl (λ x xs. refl)
    _ c.args.differences.now c.split_at.result.0.now c.split_at.result.1.now c.split_at.ensures.front c.split_at.ensures.back))
