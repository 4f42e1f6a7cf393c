use Rattle.std.proofs.Common.{rules}
use Rattle.std.proofs.lemmas.Option.{IfSome_then}
use Rattle.tile_eval.proofs.Sums.{there_under, line_under}
use Rattle.tile_eval.proofs.source_row.SourceRow.borrow_line_under_kernel_row.Goals as goal

pub borrow_row-requires : goal.borrow_row-requires
borrow_row-requires g c = λ k h.
    there_under (g.S.RowSource.has c.args.self.now.source.now c.args.stage) c.args.kernel.now c.args.self.now.points.row
    c.args.self.now.points.col
    c.row_under_kernel-row.result c.first_column_under_kernel-col.result c.args.a k
    (search rules) (search rules) (search rules) (search rules) (c.requires.reads k h)

pub returns : goal.returns
returns g c = IfSome_then c.borrow_row.result c.borrow_row.ensures (λ line h. (
  h.0,
  line_under (g.S.RowSource.samples c.args.self.now.source.now c.args.stage) c.args.kernel.now c.args.self.now.points.row
      c.args.self.now.points.col
      c.row_under_kernel-row.result c.first_column_under_kernel-col.result c.args.a c.args.count line.now
      (search rules) (search rules) (search rules) (search rules) h.0 h.1,
))
