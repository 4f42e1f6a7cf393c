use Rattle.std.proofs.Common.{rules, arith, ◌<◌, length, w32, FitsSigned, ◌∙◌, add-one}
use Rattle.std.proofs.lemmas.Int.{to_z-of_z}
use Rattle.row_loops.specs.Rows.{at}
use Rattle.stencil_kernels.proofs.Taps.{zero_wrapped}
use Rattle.tile_eval.proofs.Separated.{column_more}
use Rattle.tile_eval.proofs.source_row.SourceRow.try_weighted_sums_down_columns.Goals as goal

pub loop-a-init : goal.loop-a-init
loop-a-init g c = λ j h.
    let lt : j < length c.args.sums.now = omega arith in
    c.fill_row.ensures j lt ∙ zero_wrapped

pub loop-a-preserved : goal.loop-a-preserved
loop-a-preserved g c = λ j h.
    let lt : j < length c.loop-a.sums = omega arith in
    let factor : FitsSigned w32 (at c.args.down.now c.loop-a.a) = search rules in
    let line = c.in-Some.ensures in
    let there : j < length c.in-Some.line.now = omega arith in
    rw add-one (column_more (g.S.RowSource.samples c.args.self.now.source.now c.args.stage) c.args.kernel.now c.args.self.now.points.row
    c.args.self.now.points.col c.args.down.now c.in-Some.line.now c.loop-a.a j _ _ line.1 there (to_z-of_z w32 _ factor)
    (c.add_line_times_factor.ensures j lt _ (c.loop-a.invariant j lt)))
