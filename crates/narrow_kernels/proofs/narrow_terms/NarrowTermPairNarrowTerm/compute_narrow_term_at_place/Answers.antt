use Rattle.std.proofs.Common.{rules, w16, FitsSigned, ◌∙◌}
use Rattle.std.proofs.lemmas.Int.{to_z-of_z}
use Rattle.narrow_kernels.proofs.NarrowWraps.{wrapped_sum}
use Rattle.narrow_kernels.proofs.narrow_terms.NarrowTermPairNarrowTerm.compute_narrow_term_at_place.Goals as goal

pub returns : goal.returns
returns g c =
    let own : FitsSigned w16 c.args.own = search rules in
    let one : FitsSigned w16 c.compute_narrow_term_at_place.result = search rules in
    let two : FitsSigned w16 c.compute_narrow_term_at_place-2.result = search rules in
    let both : FitsSigned w16 c.add_wrapping_narrow_numbers.result = search rules in
    let left = simp to_z-of_z at c.compute_narrow_term_at_place.ensures in
    let right = simp to_z-of_z at c.compute_narrow_term_at_place-2.ensures in
    let sum = simp to_z-of_z at c.add_wrapping_narrow_numbers.ensures in
    to_z-of_z w16 c.add_wrapping_narrow_numbers.result both ∙ sum
    ∙ wrapped_sum c.compute_narrow_term_at_place.result c.compute_narrow_term_at_place-2.result _ _ left right
