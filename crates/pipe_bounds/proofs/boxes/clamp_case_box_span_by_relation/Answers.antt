use Rattle.std.proofs.Common.{Some, ◌≤ℤ◌, subst, sym}
use Rattle.std.specs.Int.{w128}
use Rattle.std.proofs.lemmas.Int.{to_z-of_z}
use Rattle.operators.specs.declared.operator.Relation.{Relation}
use Rattle.pipe_bounds.specs.Boxes.{Meets}
use Rattle.domains.specs.Cuts.{IsCut}
use Rattle.pipe_bounds.proofs.Cutting.{cut_twice}
use Rattle.pipe_bounds.proofs.boxes.clamp_case_box_span_by_relation.Goals as goal

pub returns-in-AtLeast : goal.returns-in-AtLeast
returns-in-AtLeast c =
    subst (λ (x : Relation). IsCut (λ v. Meets x v c.args.bound) c.args.span.now c.clamp_case_box_span_to_at_least.result) (sym c.in-AtLeast.is)
    (subst (λ z. IsCut (λ v. z ≤ℤ v) c.args.span.now c.clamp_case_box_span_to_at_least.result) (to_z-of_z w128 c.args.bound c.ranges.bound) c.clamp_case_box_span_to_at_least.ensures)

pub returns-in_ok-clamp_case_box_span_to_at_most-in-Equals : goal.returns-in_ok-clamp_case_box_span_to_at_most-in-Equals
returns-in_ok-clamp_case_box_span_to_at_most-in-Equals c =
    let same = to_z-of_z w128 c.args.bound c.ranges.bound in
    let first =
    subst (λ z. IsCut (λ v. v ≤ℤ z) c.args.span.now (Some c.in_ok-clamp_case_box_span_to_at_most-in-Equals.field-0)) same c.in_ok-clamp_case_box_span_to_at_most-in-Equals.ensures in
    let second =
    subst (λ z. IsCut (λ v. z ≤ℤ v) c.in_ok-clamp_case_box_span_to_at_most-in-Equals.field-0 c.clamp_case_box_span_to_at_least-in-Equals.result) same c.clamp_case_box_span_to_at_least-in-Equals.ensures in
    subst (λ (x : Relation). IsCut (λ v. Meets x v c.args.bound) c.args.span.now c.clamp_case_box_span_to_at_least-in-Equals.result) (sym c.in-Equals.is)
    (cut_twice c.args.bound c.args.span.now c.in_ok-clamp_case_box_span_to_at_most-in-Equals.field-0 c.clamp_case_box_span_to_at_least-in-Equals.result first second)
