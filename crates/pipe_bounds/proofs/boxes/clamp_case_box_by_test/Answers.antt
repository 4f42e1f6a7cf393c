use Rattle.std.proofs.Common.{Some, ◌≡◌, to_z, of_z, subst, sym, ◌∙◌, rules}
use Rattle.std.specs.Int.{w128}
use Rattle.pipe_tree.specs.declared.tree.Test.{Test}
use Rattle.pipe_bounds.specs.Settings.{affine_value}
use Rattle.pipe_bounds.specs.Boxes.{Meets, BoundHolds}
use Rattle.domains.specs.Cuts.{IsCut, IsCutArea}
use Rattle.pipe_bounds.proofs.Cutting.{rows_cut, columns_cut}
use Rattle.pipe_bounds.proofs.boxes.clamp_case_box_by_test.Goals as goal

pub returns-in_ok-rows-in-Compare : goal.returns-in_ok-rows-in-Compare
returns-in_ok-rows-in-Compare c =
    let same : to_z w128 (of_z w128 c.affine_value-bound.result) ≡ affine_value c.args.params.now c.in-Compare.bound = search rules in
    subst (λ (t : Test). IsCutArea (BoundHolds c.args.params.now c.args.row.now t) c.args.area.now
    (Some (record { rows = c.in_ok-rows-in-Compare.rows; cols = c.args.area.now.cols }))) (sym c.in-Compare.is)
    (rows_cut c.args.params.now c.args.row.now c.in-Compare.name c.in-Compare.relation c.in-Compare.bound c.args.area.now
    c.in_ok-rows-in-Compare.rows (sym c.is_same_name.ensures ∙ c.if-is_same_name.true)
    (subst (λ z. IsCut (λ v. Meets c.in-Compare.relation v z) c.args.area.now.rows (Some c.in_ok-rows-in-Compare.rows)) same
    c.in_ok-rows-in-Compare.ensures))

pub returns-in_ok-cols-in-Compare : goal.returns-in_ok-cols-in-Compare
returns-in_ok-cols-in-Compare c =
    let same : to_z w128 (of_z w128 c.affine_value-bound.result) ≡ affine_value c.args.params.now c.in-Compare.bound = search rules in
    subst (λ (t : Test). IsCutArea (BoundHolds c.args.params.now c.args.row.now t) c.args.area.now
    (Some (record { rows = c.args.area.now.rows; cols = c.in_ok-cols-in-Compare.cols }))) (sym c.in-Compare.is)
    (columns_cut c.args.params.now c.args.row.now c.in-Compare.name c.in-Compare.relation c.in-Compare.bound c.args.area.now
    c.in_ok-cols-in-Compare.cols (sym c.is_same_name.ensures ∙ c.if-is_same_name.false)
    (subst (λ z. IsCut (λ v. Meets c.in-Compare.relation v z) c.args.area.now.cols (Some c.in_ok-cols-in-Compare.cols)) same
    c.in_ok-cols-in-Compare.ensures))
