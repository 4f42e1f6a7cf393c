use Rattle.std.proofs.Common.{◌+ℤ◌, pos, subst}
use Rattle.job.specs.Reads.{EachRead}
use Rattle.linear_rows.specs.declared.linear_rows.LinearRow.{LinearRow}
use Rattle.linear_rows.specs.RowFormulas.{linear_formula}
use Rattle.linear_rows.proofs.linear_rows.write_linear_row.Goals as goal

pub write_linear_mean-requires-clause-reads : goal.write_linear_mean-requires-clause-reads
write_linear_mean-requires-clause-reads g c = λ k h.
    let points = c.args.points.now in
    subst (λ (row : LinearRow). EachRead (g.S.NarrowSource.has c.args.source.now) (linear_formula row) points.row (points.col +ℤ pos k))
    c.in-Mean.is (c.requires.reads k h)
