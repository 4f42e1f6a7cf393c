use Rattle.std.proofs.Common.{rules, ℕ, ◌≡◌, ◌<◌, ◌+◌, ◌*◌, pos, length, ap, ◌∙◌, sym, subst}
use Rattle.row_kernels.specs.Columns.{column_gap}
use Rattle.row_kernels.proofs.Columns.{columns_step, gap_found}
use Rattle.row_kernels.proofs.Dividing.{halves_go}
use Rattle.row_loops.specs.Rows.{at}
use Rattle.narrow_kernels.proofs.narrow_gathering.gather_narrow_index_columns.Goals as goal

pub gather_every_nth_of_narrow_line-requires : goal.gather_every_nth_of_narrow_line-requires
gather_every_nth_of_narrow_line-requires c = λ k h.
    let div : c.args.col.now.div ≡ pos 1 = search rules in
    let goes : column_gap c.args.col.now c.args.points.now.col k ≡ k * c.get_narrow_line_step-step.result =
    gap_found c.args.col.now c.args.points.now.col k _ (columns_step c.args.col.now _ c.args.points.now.col k c.get_narrow_line_step-step.ensures.number div) in
    subst (λ (n : ℕ). c.args.from + n < length c.args.line.now) goes (c.requires.there k h)

pub returns-then-divisor-eq1 : goal.returns-then-divisor-eq1
returns-then-divisor-eq1 c = λ k h.
    let div : c.args.col.now.div ≡ pos 1 = search rules in
    let goes : column_gap c.args.col.now c.args.points.now.col k ≡ k * c.get_narrow_line_step-step.result =
    gap_found c.args.col.now c.args.points.now.col k _ (columns_step c.args.col.now _ c.args.points.now.col k c.get_narrow_line_step-step.ensures.number div) in
    c.gather_every_nth_of_narrow_line.ensures k h ∙ ap (λ (n : ℕ). at c.args.line.now (c.args.from + n)) (sym goes)

pub gather_each_twice_of_narrow_line-requires-clause-there : goal.gather_each_twice_of_narrow_line-requires-clause-there
gather_each_twice_of_narrow_line-requires-clause-there c = λ k h.
    let goes =
    c.compute_narrow_line_rest-left.ensures.goes _ _ k c.get_narrow_line_step-step.ensures.number c.get_narrow_line_divisor-divisor.ensures.number
    ∙ halves_go c.compute_narrow_line_rest-left.result k _ _ c.if-step-eq1.true c.if-divisor-eq2.true in
    subst (λ (n : ℕ). c.args.from + n < length c.args.line.now) goes (c.requires.there k h)

pub returns-then-step-eq1 : goal.returns-then-step-eq1
returns-then-step-eq1 c = λ k h.
    let goes =
    c.compute_narrow_line_rest-left.ensures.goes _ _ k c.get_narrow_line_step-step.ensures.number c.get_narrow_line_divisor-divisor.ensures.number
    ∙ halves_go c.compute_narrow_line_rest-left.result k _ _ c.if-step-eq1.true c.if-divisor-eq2.true in
    c.gather_each_twice_of_narrow_line.ensures k h ∙ ap (λ (n : ℕ). at c.args.line.now (c.args.from + n)) (sym goes)
