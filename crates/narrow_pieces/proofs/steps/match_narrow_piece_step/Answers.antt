use Rattle.std.proofs.Common.{rules, ℤ, ◌≡◌, w16, FitsSigned, ap, ◌∙◌}
use Rattle.std.proofs.lemmas.Int.{to_z-of_z}
use Rattle.job.specs.Formula.{binary}
use Rattle.job.specs.Values.{binary_value}
use Rattle.job.specs.Views.{formula_view}
use Rattle.narrow_pieces.proofs.PieceLaws.{right_step, left_step}
use Rattle.narrow_pieces.proofs.steps.match_narrow_piece_step.Goals as goal

pub returns-in_ok-find_narrow_piece_step_with_right_number-in-Some :
    goal.returns-in_ok-find_narrow_piece_step_with_right_number-in-Some
returns-in_ok-find_narrow_piece_step_with_right_number-in-Some c =
    let left = formula_view c.deref-in-Some.result.now in
    let right = formula_view c.deref.result.now in
    let given : FitsSigned w16 c.in-Some.number = search rules in
    let same : formula_view c.args.formula.now ≡ binary c.in-Binary.op left right = search rules in
    right_step (formula_view c.args.formula.now) c.in-Binary.op left right same
    c.in_ok-find_narrow_piece_step_with_right_number-in-Some.field-0 c.in-Some.number c.in-Some.ensures
    (λ x h. c.in_ok-find_narrow_piece_step_with_right_number-in-Some.ensures x h ∙ ap (binary_value c.in-Binary.op x) (to_z-of_z w16 _ given))

pub returns-in_ok-step-in-None : goal.returns-in_ok-step-in-None
returns-in_ok-step-in-None c =
    let left = formula_view c.deref-in-None.result.now in
    let right = formula_view c.deref-in-None-2.result.now in
    let given : FitsSigned w16 c.in_ok-number-in-None.number = search rules in
    let same : formula_view c.args.formula.now ≡ binary c.in-Binary.op left right = search rules in
    left_step (formula_view c.args.formula.now) c.in-Binary.op left right same c.in_ok-step-in-None.step
    c.in_ok-number-in-None.number c.in_ok-number-in-None.ensures
    (λ x h. c.in_ok-step-in-None.ensures x h ∙ ap (λ (z : ℤ). binary_value c.in-Binary.op z x) (to_z-of_z w16 _ given))
