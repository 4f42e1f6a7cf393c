use Rattle.std.proofs.Common.{arith, ◌<◌, ◌∙◌, ◌+ℤ◌, pos, refl}
use Rattle.narrow_sums.specs.SumRows.{sum_row_formula}
use Rattle.narrow_sums.proofs.NarrowFormulas.{narrow_at}
use Rattle.narrow_sums.proofs.SumRows.{alone_row_reads}
use Rattle.narrow_sums.proofs.RowLaws.{alone_gaps, alone_is}
use Rattle.narrow_sums.proofs.writing.write_narrow_sum_row.Goals as goal

pub complete_narrow_sum_row-requires-clause-reads : goal.complete_narrow_sum_row-requires-clause-reads
complete_narrow_sum_row-requires-clause-reads g c =
    let points = c.args.points.now in
    alone_row_reads (g.S.NarrowSource.has c.args.source.now) points.row points.col points.len c.args.row.now c.requires.reads

pub returns : goal.returns
returns g c = λ k l.
    let env = g.S.NarrowSource.samples c.args.source.now in
    let points = c.args.points.now in
    let row = c.args.row.now in
    let fits = c.requires.fits in
    let within : k < points.len = omega (arith, fits, l) in
    c.complete_narrow_sum_row.ensures (λ j. pos 0) (alone_gaps env points.row points.col points.len row c.requires.narrow) (λ j m. refl) k l
    ∙ alone_is env points.row (points.col +ℤ pos k) row (pos 0) refl
    (narrow_at env points.row points.col points.len (sum_row_formula row) c.requires.narrow k within)
