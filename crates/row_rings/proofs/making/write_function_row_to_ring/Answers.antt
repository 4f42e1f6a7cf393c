use Rattle.std.proofs.Common.{map, subst}
use Rattle.std.specs.Option.{option_map}
use Rattle.job.specs.Pipeline.{function}
use Rattle.job.specs.Views.{case_view, formula_view}
use Rattle.row_rings.specs.RingShapes.{IsShapeOf}
use Rattle.row_rings.specs.declared.ring_shapes.RingShape.{RingShape}
use Rattle.row_rings.proofs.making.write_function_row_to_ring.Goals as goal

pub write_division_row_to_ring-requires-clause-formula : goal.write_division_row_to_ring-requires-clause-formula
write_division_row_to_ring-requires-clause-formula c =
    let f = c.args.function.now in
    (subst (λ (shape : RingShape). IsShapeOf shape (function (map case_view f.cases.items) (option_map formula_view f.otherwise)))
    c.in-Division.is c.requires.shape).0

pub write_wide_column_phases-requires-clause-phases : goal.write_wide_column_phases-requires-clause-phases
write_wide_column_phases-requires-clause-phases c =
    let f = c.args.function.now in
    (subst (λ (shape : RingShape). IsShapeOf shape (function (map case_view f.cases.items) (option_map formula_view f.otherwise)))
    c.in-Phases.is c.requires.shape).0
