use Rattle.std.proofs.Common.{rules}
use Rattle.tile_eval.proofs.Sums.{there_under}
use Rattle.tile_eval.proofs.source_row.SourceRow.read_line_under_kernel_row.Goals as goal

pub read_row-requires : goal.read_row-requires
read_row-requires g c = λ k h.
    there_under (g.S.RowSource.has c.args.self.now.source.now c.args.stage) c.args.kernel.now c.args.self.now.points.row
    c.args.self.now.points.col
    c.row_under_kernel-row.result c.first_column_under_kernel-col.result c.args.a k
    (search rules) (search rules) (search rules) (search rules) (c.requires.reads k h)
