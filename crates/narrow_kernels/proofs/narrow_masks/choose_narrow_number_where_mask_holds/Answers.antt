use Rattle.std.proofs.Common.{rules, ℤ, w16, w32, FitsSigned, ◌∙◌, map}
use Rattle.std.proofs.lemmas.Int.{to_z-of_z}
use Rattle.operators.specs.Values.{all_passed}
use Rattle.operators.specs.Views.{test_view}
use Rattle.row_loops.specs.Rows.{at}
use Rattle.narrow_kernels.proofs.NarrowMasks.{chosen_first}
use Rattle.narrow_kernels.proofs.narrow_masks.choose_narrow_number_where_mask_holds.Goals as goal

pub returns : goal.returns
returns c =
    let own : FitsSigned w16 c.args.own = search rules in
    let its : FitsSigned w16 c.args.its = search rules in
    let made : FitsSigned w16 c.narrow_number_of_wide.result = search rules in
    let wide : FitsSigned w32 (at c.copy_row_where_mask_holds.new.out 0) = search rules in
    let mine : FitsSigned w32 c.from.result = search rules in
    let other : FitsSigned w32 c.from-2.result = search rules in
    let number = simp to_z-of_z at c.narrow_number_of_wide.ensures in
    let own_is = simp to_z-of_z at c.from.ensures in
    let its_is = simp to_z-of_z at c.from-2.ensures in
    to_z-of_z w16 _ made ∙ number
    ∙ chosen_first (λ (z : ℤ). all_passed (map test_view c.args.tests.now) c.args.point.now.row z) c.args.point.now.col _ _ _ _ _
    (c.copy_row_where_mask_holds.ensures 0 (search rules)) (to_z-of_z w32 _ other ∙ its_is) (to_z-of_z w32 _ mine ∙ own_is)
