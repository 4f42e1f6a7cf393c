use Rattle.std.proofs.Common.{arith, ◌+ℤ◌, pos, map, sym, ap, ◌∙◌, subst}
use Rattle.std.specs.Option.{option_map}
use Rattle.job.specs.Pipeline.{function}
use Rattle.job.specs.Views.{case_view, formula_view}
use Rattle.linear_rows.specs.RowFormulas.{linear_formula}
use Rattle.narrow_eval.specs.NarrowPrograms.{program_case, program_formula}
use Rattle.column_phases.proofs.Merely.{narrow_computable_same, value_same}
use Rattle.value_ranges.specs.Narrow.{Fits16}
use Rattle.row_rings.specs.NarrowRings.{is_linear_shape}
use Rattle.row_rings.specs.RingShapes.{IsShapeOf}
use Rattle.row_rings.specs.declared.ring_shapes.RingShape.{RingShape}
use Rattle.row_rings.proofs.Shapes.{formula_read, formula_everywhere, phases_same}
use Rattle.row_rings.proofs.narrow_making.write_shaped_row_to_narrow_ring.Goals as goal

-- ---- a linear row

pub write_linear_row-requires-clause-right : goal.write_linear_row-requires-clause-right
write_linear_row-requires-clause-right g c =
    let f = c.args.function.now in
    (subst (λ (shape : RingShape). IsShapeOf shape (function (map case_view f.cases.items) (option_map formula_view f.otherwise)))
    c.in-Linear.is c.requires.shape).1

pub write_linear_row-requires-clause-reads : goal.write_linear_row-requires-clause-reads
write_linear_row-requires-clause-reads g c = λ k h.
    let f = c.args.function.now in
    let is = subst (λ (shape : RingShape). IsShapeOf shape (function (map case_view f.cases.items) (option_map formula_view f.otherwise)))
    c.in-Linear.is c.requires.shape in
    formula_read (g.S.NarrowSource.has c.args.source.now) (linear_formula c.in-Linear.linear) (map case_view f.cases.items)
    (option_map formula_view f.otherwise) _ _ is.0 (c.requires.reads k (omega (arith, h, c.requires.fits)))

pub write_linear_row-requires-clause-narrow : goal.write_linear_row-requires-clause-narrow
write_linear_row-requires-clause-narrow g c = λ k h.
    let f = c.args.function.now in
    let is = subst (λ (shape : RingShape). IsShapeOf shape (function (map case_view f.cases.items) (option_map formula_view f.otherwise)))
    c.in-Linear.is c.requires.shape in
    subst Fits16
    (sym (formula_everywhere (g.S.NarrowSource.samples c.args.source.now) (linear_formula c.in-Linear.linear) (map case_view f.cases.items)
    (option_map formula_view f.otherwise) _ _ is.0))
    (c.requires.values k (omega (arith, h, c.requires.fits)))

pub returns-in-Linear : goal.returns-in-Linear
returns-in-Linear g c = λ k h.
    let f = c.args.function.now in
    let is = subst (λ (shape : RingShape). IsShapeOf shape (function (map case_view f.cases.items) (option_map formula_view f.otherwise)))
    c.in-Linear.is c.requires.shape in
    c.write_linear_row.ensures k h
    ∙ formula_everywhere (g.S.NarrowSource.samples c.args.source.now) (linear_formula c.in-Linear.linear) (map case_view f.cases.items)
    (option_map formula_view f.otherwise) _ _ is.0

-- ---- pieces

pub write_narrow_pieces-requires-clause-pieces : goal.write_narrow_pieces-requires-clause-pieces
write_narrow_pieces-requires-clause-pieces g c =
    let f = c.args.function.now in
    (subst (λ (shape : RingShape). IsShapeOf shape (function (map case_view f.cases.items) (option_map formula_view f.otherwise)))
    c.in-Pieces.is c.requires.shape)

pub write_narrow_pieces-requires-clause-narrow : goal.write_narrow_pieces-requires-clause-narrow
write_narrow_pieces-requires-clause-narrow g c =
    (c.requires.function (ap is_linear_shape c.in-Pieces.is)).narrow

-- ---- phases

pub write_narrow_column_phases-requires-clause-function : goal.write_narrow_column_phases-requires-clause-function
write_narrow_column_phases-requires-clause-function g c =
    let f = c.args.function.now in
    let is = subst (λ (shape : RingShape). IsShapeOf shape (function (map case_view f.cases.items) (option_map formula_view f.otherwise)))
    c.in-Phases.is c.requires.shape in
    narrow_computable_same (map program_case c.in-Phases.program.cases.items) (map case_view f.cases.items)
    (option_map program_formula c.in-Phases.program.otherwise) (option_map formula_view f.otherwise) is.1 _ _ _ _ _ _
    (c.requires.function (ap is_linear_shape c.in-Phases.is))

pub write_narrow_column_phases-requires-clause-phases : goal.write_narrow_column_phases-requires-clause-phases
write_narrow_column_phases-requires-clause-phases g c =
    let f = c.args.function.now in
    let is = subst (λ (shape : RingShape). IsShapeOf shape (function (map case_view f.cases.items) (option_map formula_view f.otherwise)))
    c.in-Phases.is c.requires.shape in
    phases_same c.in-Phases.phases.functions.items (map program_case c.in-Phases.program.cases.items) (map case_view f.cases.items)
    (option_map program_formula c.in-Phases.program.otherwise) (option_map formula_view f.otherwise) is.1 is.0

pub returns-in-Phases : goal.returns-in-Phases
returns-in-Phases g c = λ k h.
    let f = c.args.function.now in
    let is = subst (λ (shape : RingShape). IsShapeOf shape (function (map case_view f.cases.items) (option_map formula_view f.otherwise)))
    c.in-Phases.is c.requires.shape in
    c.write_narrow_column_phases.ensures k h
    ∙ value_same (map program_case c.in-Phases.program.cases.items) (map case_view f.cases.items)
    (option_map program_formula c.in-Phases.program.otherwise) (option_map formula_view f.otherwise) is.1 (g.S.NarrowSource.samples c.args.source.now) c.args.points.now.row
    (c.args.points.now.col +ℤ pos k)

-- ---- a step of a division, and any other

pub evaluate_narrow_function-requires-clause-function : goal.evaluate_narrow_function-requires-clause-function
evaluate_narrow_function-requires-clause-function g c =
    let f = c.args.function.now in
    let is = subst (λ (shape : RingShape). IsShapeOf shape (function (map case_view f.cases.items) (option_map formula_view f.otherwise)))
    c.in-Division.is c.requires.shape in
    narrow_computable_same (map program_case c.in-Division.program.cases.items) (map case_view f.cases.items)
    (option_map program_formula c.in-Division.program.otherwise) (option_map formula_view f.otherwise) is.2 _ _ _ _ _ _
    (c.requires.function (ap is_linear_shape c.in-Division.is))

pub returns-in-Division : goal.returns-in-Division
returns-in-Division g c = λ k h.
    let f = c.args.function.now in
    let is = subst (λ (shape : RingShape). IsShapeOf shape (function (map case_view f.cases.items) (option_map formula_view f.otherwise)))
    c.in-Division.is c.requires.shape in
    c.evaluate_narrow_function.ensures k h
    ∙ value_same (map program_case c.in-Division.program.cases.items) (map case_view f.cases.items)
    (option_map program_formula c.in-Division.program.otherwise) (option_map formula_view f.otherwise) is.2 (g.S.NarrowSource.samples c.args.source.now) c.args.points.now.row
    (c.args.points.now.col +ℤ pos k)

pub evaluate_narrow_function-requires-in-Formulas-clause-function : goal.evaluate_narrow_function-requires-in-Formulas-clause-function
evaluate_narrow_function-requires-in-Formulas-clause-function g c =
    let f = c.args.function.now in
    let is = subst (λ (shape : RingShape). IsShapeOf shape (function (map case_view f.cases.items) (option_map formula_view f.otherwise)))
    c.in-Formulas.is c.requires.shape in
    narrow_computable_same (map program_case c.in-Formulas.program.cases.items) (map case_view f.cases.items)
    (option_map program_formula c.in-Formulas.program.otherwise) (option_map formula_view f.otherwise) is _ _ _ _ _ _
    (c.requires.function (ap is_linear_shape c.in-Formulas.is))

pub returns-in-Formulas : goal.returns-in-Formulas
returns-in-Formulas g c = λ k h.
    let f = c.args.function.now in
    let is = subst (λ (shape : RingShape). IsShapeOf shape (function (map case_view f.cases.items) (option_map formula_view f.otherwise)))
    c.in-Formulas.is c.requires.shape in
    c.evaluate_narrow_function-in-Formulas.ensures k h
    ∙ value_same (map program_case c.in-Formulas.program.cases.items) (map case_view f.cases.items)
    (option_map program_formula c.in-Formulas.program.otherwise) (option_map formula_view f.otherwise) is (g.S.NarrowSource.samples c.args.source.now) c.args.points.now.row
    (c.args.points.now.col +ℤ pos k)

pub returns-in-Other : goal.returns-in-Other
returns-in-Other g c = λ k h.
    let f = c.args.function.now in
    absurd (subst (λ (shape : RingShape). IsShapeOf shape (function (map case_view f.cases.items) (option_map formula_view f.otherwise)))
    c.in-Other.is c.requires.shape)
