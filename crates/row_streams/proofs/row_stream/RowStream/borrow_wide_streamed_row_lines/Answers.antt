use Rattle.std.proofs.Common.{◌≡◌, ℕ, ℤ, List, length, sym, ap, ◌∙◌, arith}
use Rattle.job.specs.Kept.{pipeline_in}
use Rattle.job.specs.Views.{output_view}
use Rattle.row_streams.proofs.Lines.{line_len, row_of_lines}
use Rattle.row_streams.proofs.row_stream.RowStream.borrow_wide_streamed_row_lines.Goals as goal

pub returns-in-len1-clause-len : goal.returns-in-len1-clause-len
returns-in-len1-clause-len c =
    let self = c.args.self.now in
    let job = pipeline_in self.steps.job.now in
    let o = output_view self.output.now in
    let line = c.borrow_ring_row.result.now in
    let long =
    line_len job (pipeline_in self.steps.rings.job.now) o self.steps.row 0 0 c.stages.result.now line self.formed (ap pipeline_in self.steps.own) c.stages.ensures
    (omega arith) c.borrow_ring_row.ensures in
    let number : length o.stages ≡ 1 = omega (arith, ap length c.stages.ensures) in
    row_of_lines job o 1 line number long

pub returns-in-len3-clause-even : goal.returns-in-len3-clause-even
returns-in-len3-clause-even c =
    let self = c.args.self.now in
    let long = λ (k : ℕ) (line : List ℤ). line_len (pipeline_in self.steps.job.now) (pipeline_in self.steps.rings.job.now) (output_view self.output.now) self.steps.row
    k 0 c.stages.result.now line self.formed (ap pipeline_in self.steps.own) c.stages.ensures in
    let red = long 0 _ (omega arith) c.borrow_ring_row-in-len3.ensures in
    let green = long 1 _ (omega arith) c.borrow_ring_row-in-len3-2.ensures in
    let blue = long 2 _ (omega arith) c.borrow_ring_row-in-len3-3.ensures in
    (green ∙ sym red, blue ∙ sym red)

pub returns-in-len3-clause-len : goal.returns-in-len3-clause-len
returns-in-len3-clause-len c =
    let self = c.args.self.now in
    let job = pipeline_in self.steps.job.now in
    let o = output_view self.output.now in
    let line = c.borrow_ring_row-in-len3.result.now in
    let long =
    line_len job (pipeline_in self.steps.rings.job.now) o self.steps.row 0 0 c.stages.result.now line self.formed (ap pipeline_in self.steps.own) c.stages.ensures
    (omega arith) c.borrow_ring_row-in-len3.ensures in
    let number : length o.stages ≡ 3 = omega (arith, ap length c.stages.ensures) in
    row_of_lines job o 3 line number long
