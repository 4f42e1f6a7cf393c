use Rattle.std.proofs.Common.{arith, ℤ, ◌≡◌, ◌≤◌, ◌+◌, ◌-◌, List, length, ◌∙◌, ap}
use Rattle.std.proofs.lemmas.Grind.{common_steps}
use Rattle.std.specs.Prelude.{slice_index_or}
use Rattle.job.specs.Values.{factors}
use Rattle.tile_eval.proofs.Sums.{row_more}
use Rattle.tile_eval.proofs.Gathering.{few_factors, found_factors}
use Rattle.tile_eval.proofs.source_row.SourceRow.add_kernel_row_sums.Goals as goal

pub returns : goal.returns
returns g c = λ k h s e.
    let fs : c.as_slice-factors.result.now ≡ factors c.args.kernel.now c.args.a =
    c.as_slice-factors.ensures
    ∙ found_factors c.args.kernel.now c.args.a _ c.requires.a
    (c.index-as_slice-a.is ∙ ap (λ (ks : List (List ℤ)). slice_index_or ks c.args.a c.index-as_slice-a.result) c.as_slice.ensures) in
    let few : length c.as_slice-factors.result.now ≤ 15 = rw fs (few_factors c.args.kernel.now c.args.a c.requires.kernel c.requires.a) in
    let len : length c.borrow_or_read_line_under_kernel_row-line.result.now ≡ length c.args.out.now + length c.as_slice-factors.result.now - 1 =
    grind (arith, common_steps) in
    row_more c.args.kernel.now (g.S.RowSource.samples c.args.self.now.source.now c.args.stage) c.args.self.now.points.row
    c.args.self.now.points.col c.args.a k
    _ _ c.borrow_or_read_line_under_kernel_row-line.result.now s _ fs c.borrow_or_read_line_under_kernel_row-line.ensures.line len h (c.add_tap_sums.ensures k h s e)
