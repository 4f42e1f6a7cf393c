use Rattle.std.proofs.Common.{ℤ, ◌≡◌, ◌+ℤ◌, pos, suc, List, length, ◌∙◌, ap, w16}
use Rattle.std.specs.Int.{int_wrap}
use Rattle.std.specs.Prelude.{slice_index_or}
use Rattle.job.specs.Values.{factors}
use Rattle.tile_eval.proofs.Gathering.{found_factors}
use Rattle.narrow_eval.specs.NarrowStencils.{rows_below, line_total}
use Rattle.narrow_sums.proofs.NarrowAddends.{gives_same}
use Rattle.narrow_eval.proofs.NarrowStencils.{row_more}
use Rattle.narrow_eval.proofs.narrow_points.NarrowPoints.add_narrow_stencil_row.Goals as goal

pub returns-clause-sum : goal.returns-clause-sum
returns-clause-sum g c = λ h.
    let fs : c.as_slice-factors.result.now ≡ factors c.args.kernel.now c.args.a =
    c.as_slice-factors.ensures
    ∙ found_factors c.args.kernel.now c.args.a _ c.requires.a
    (c.index-as_slice-a.is ∙ ap (λ (ks : List (List ℤ)). slice_index_or ks c.args.a c.index-as_slice-a.result) c.as_slice.ensures) in
    gives_same (length c.args.out.now)
    (λ k. rows_below c.args.a c.args.kernel.now (g.S.NarrowSource.samples c.args.self.now.source.now c.args.stage) c.args.self.now.points.row
    (c.args.self.now.points.col +ℤ pos k)
    +ℤ line_total (length c.as_slice-factors.result.now) c.as_slice-factors.result.now c.borrow_narrow_stencil_line-line.result.now k)
    (λ k. rows_below (suc c.args.a) c.args.kernel.now (g.S.NarrowSource.samples c.args.self.now.source.now c.args.stage)
    c.args.self.now.points.row (c.args.self.now.points.col +ℤ pos k))
    c.add_narrow_stencil_products.new.sum c.add_narrow_stencil_products.new.out
    (λ k l. ap (int_wrap w16)
    (row_more c.args.kernel.now (g.S.NarrowSource.samples c.args.self.now.source.now c.args.stage) c.args.self.now.points.row
    c.args.self.now.points.col c.args.a k (length c.args.out.now) _ c.borrow_narrow_stencil_line-line.result.now _ fs
    c.borrow_narrow_stencil_line-line.ensures.under c.borrow_narrow_stencil_line-line.ensures.count l))
    (c.add_narrow_stencil_products.ensures.sum _ h)
