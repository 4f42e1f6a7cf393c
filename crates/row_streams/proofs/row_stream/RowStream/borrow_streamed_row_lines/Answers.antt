use Rattle.std.proofs.Common.{sym, subst, ◌∙◌}
use Rattle.std.specs.Prelude.{All}
use Rattle.row_rings.specs.Rings.{IsOutputForm}
use Rattle.row_streams.proofs.Forms.{narrow_outputs, wide_outputs}
use Rattle.row_streams.proofs.row_stream.RowStream.borrow_streamed_row_lines.Goals as goal

pub borrow_narrow_streamed_row_lines-requires-clause-narrow : goal.borrow_narrow_streamed_row_lines-requires-clause-narrow
borrow_narrow_streamed_row_lines-requires-clause-narrow c =
    let self = c.args.self.now in
    narrow_outputs self.steps.rings self.output.now.stages.items
    (sym c.has_narrow_output_rings.ensures ∙ c.if-has_narrow_output_rings.true) (subst (All (IsOutputForm self.steps.rings)) self.planes self.steps.formed_rings)

pub borrow_wide_streamed_row_lines-requires-clause-wide : goal.borrow_wide_streamed_row_lines-requires-clause-wide
borrow_wide_streamed_row_lines-requires-clause-wide c =
    let self = c.args.self.now in
    wide_outputs self.steps.rings self.output.now.stages.items
    (sym c.has_narrow_output_rings.ensures ∙ c.if-has_narrow_output_rings.false) (subst (All (IsOutputForm self.steps.rings)) self.planes self.steps.formed_rings)
