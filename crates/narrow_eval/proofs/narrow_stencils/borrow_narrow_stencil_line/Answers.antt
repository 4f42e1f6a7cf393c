use Rattle.std.proofs.Common.{rules, ℤ, ◌≡◌, List, length, ◌∙◌, ap, w32, FitsSigned}
use Rattle.std.specs.Prelude.{slice_index_or}
use Rattle.job.specs.Values.{factors, under, kernel_row, kernel_column}
use Rattle.tile_eval.proofs.Sums.{there_under, line_under}
use Rattle.tile_eval.proofs.Gathering.{found_factors, has_rows}
use Rattle.narrow_eval.proofs.narrow_stencils.borrow_narrow_stencil_line.Goals as goal

pub borrow_narrow_row-requires : goal.borrow_narrow_row-requires
borrow_narrow_row-requires g c = λ k h.
    let first : c.as_slice.result.now ≡ factors c.args.kernel.now 0 =
    c.as_slice.ensures
    ∙ found_factors c.args.kernel.now 0 _ (has_rows c.args.kernel.now c.requires.kernel)
    (c.index-rows-0.is ∙ ap (λ (ks : List (List ℤ)). slice_index_or ks 0 c.index-rows-0.result) c.as_slice-rows.ensures) in
    let row_fits : FitsSigned w32 c.row_under_kernel-row.result = search rules in
    let col_fits : FitsSigned w32 c.first_column_under_kernel-col.result = search rules in
    let row : c.row_under_kernel-row.result ≡ kernel_row c.args.kernel.now c.args.points.now.row c.args.a =
    c.row_under_kernel-row.ensures
    ∙ ap (λ (ks : List (List ℤ)). under c.args.points.now.row (length ks) c.args.a) c.as_slice-rows.ensures in
    let col : c.first_column_under_kernel-col.result ≡ kernel_column c.args.kernel.now c.args.points.now.col 0 =
    c.first_column_under_kernel-col.ensures
    ∙ ap (λ (ts : List ℤ). under c.args.points.now.col (length ts) 0) first in
    there_under (g.S.NarrowSource.has c.args.source.now c.args.stage) c.args.kernel.now c.args.points.now.row
    c.args.points.now.col
    c.row_under_kernel-row.result c.first_column_under_kernel-col.result c.args.a k
    row_fits col_fits row col (c.requires.reads k h)

pub returns-clause-under : goal.returns-clause-under
returns-clause-under g c =
    let first : c.as_slice.result.now ≡ factors c.args.kernel.now 0 =
    c.as_slice.ensures
    ∙ found_factors c.args.kernel.now 0 _ (has_rows c.args.kernel.now c.requires.kernel)
    (c.index-rows-0.is ∙ ap (λ (ks : List (List ℤ)). slice_index_or ks 0 c.index-rows-0.result) c.as_slice-rows.ensures) in
    let row_fits : FitsSigned w32 c.row_under_kernel-row.result = search rules in
    let col_fits : FitsSigned w32 c.first_column_under_kernel-col.result = search rules in
    let row : c.row_under_kernel-row.result ≡ kernel_row c.args.kernel.now c.args.points.now.row c.args.a =
    c.row_under_kernel-row.ensures
    ∙ ap (λ (ks : List (List ℤ)). under c.args.points.now.row (length ks) c.args.a) c.as_slice-rows.ensures in
    let col : c.first_column_under_kernel-col.result ≡ kernel_column c.args.kernel.now c.args.points.now.col 0 =
    c.first_column_under_kernel-col.ensures
    ∙ ap (λ (ts : List ℤ). under c.args.points.now.col (length ts) 0) first in
    line_under (g.S.NarrowSource.samples c.args.source.now c.args.stage) c.args.kernel.now c.args.points.now.row
    c.args.points.now.col
    c.row_under_kernel-row.result c.first_column_under_kernel-col.result c.args.a _ c.borrow_narrow_row.result.now
    row_fits col_fits row col c.borrow_narrow_row.ensures.count c.borrow_narrow_row.ensures.values
