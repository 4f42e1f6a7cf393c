use Rattle.std.proofs.Common.{rules, arith, ℕ, ℤ, ◌<◌, ◌+ℤ◌, pos, w16, FitsSigned, ◌∙◌, length, map}
use Rattle.std.specs.Prelude.{if◌then◌else◌}
use Rattle.std.proofs.lemmas.Int.{to_z-of_z}
use Rattle.operators.specs.Values.{all_passed}
use Rattle.operators.specs.Views.{test_view}
use Rattle.row_loops.specs.Rows.{at}
use Rattle.row_loops.proofs.Writing.{EachPlace-more}
use Rattle.narrow_kernels.proofs.NarrowMasks.{chosen_there}
use Rattle.narrow_kernels.proofs.narrow_masks.copy_narrow_row_by_points.Goals as goal

pub loop-k-preserved : goal.loop-k-preserved
loop-k-preserved c =
    let lt : c.loop-k.k < length c.loop-k.out = search rules in
    let its : FitsSigned w16 (at c.args.other.now c.loop-k.k) = search rules in
    let own : FitsSigned w16 (at c.loop-k.out c.loop-k.k) = search rules in
    let made : FitsSigned w16 c.choose_narrow_number_where_mask_holds.result = search rules in
    record {
      done = EachPlace-more (λ (k : ℕ). if all_passed (map test_view c.args.tests.now) c.args.points.now.row (c.args.points.now.col +ℤ pos k)
          then at c.args.other.now k else at c.args.out.now k) c.loop-k.out c.loop-k.k _ lt
          (to_z-of_z w16 _ made
          ∙ chosen_there (λ (r s : ℤ). all_passed (map test_view c.args.tests.now) r s) _ _ _ _ _ _ _ _ _ c.choose_narrow_number_where_mask_holds.ensures
          c.slice_points-point.ensures.row c.slice_points-point.ensures.col (to_z-of_z w16 _ its)
          (to_z-of_z w16 _ own ∙ c.loop-k.invariant.ahead c.loop-k.k (omega arith))) c.loop-k.invariant.done;
      ahead = search rules;
    }
