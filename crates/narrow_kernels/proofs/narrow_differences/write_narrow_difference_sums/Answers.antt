use Rattle.std.proofs.Common.{rules, ◌≡◌, ◌<◌, length, ap, refl, ◌∙◌, w16}
use Rattle.std.specs.Int.{int_wrap}
use Rattle.std.proofs.Math.IntN.{+ℤ_idl}
use Rattle.row_loops.specs.Rows.{at}
use Rattle.narrow_kernels.specs.declared.narrow_differences.NarrowClampedDifference.{NarrowClampedDifference}
use Rattle.narrow_kernels.specs.NarrowDifferences.{narrow_difference_at, narrow_difference_sum}
use Rattle.narrow_kernels.proofs.NarrowSums.{sum_split}
use Rattle.narrow_kernels.proofs.narrow_differences.write_narrow_difference_sums.Goals as goal

pub returns : goal.returns
returns c = λ k h.
    let inside : k < length c.add_few_narrow_differences.new.out = search rules in
    let front : at c.add_few_narrow_differences.new.out k ≡ int_wrap w16 (narrow_difference_sum c.split_at.result.0.now k) =
    c.add_few_narrow_differences.ensures k h ∙ ap (int_wrap w16) (+ℤ_idl _) in
    c.add_narrow_difference_sums.ensures k inside _ front
    ∙ ap (int_wrap w16) (sum_split (λ (d : NarrowClampedDifference). narrow_difference_at d k) (λ differences. narrow_difference_sum differences k) refl (λ x xs. refl)
    _ c.args.differences.now c.split_at.result.0.now c.split_at.result.1.now c.split_at.ensures.front c.split_at.ensures.back)
