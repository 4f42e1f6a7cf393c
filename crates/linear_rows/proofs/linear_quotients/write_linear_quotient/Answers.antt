use Rattle.std.proofs.Common.{◌+ℤ◌, pos}
use Rattle.job.specs.Views.{formula_view}
use Rattle.linear_rows.proofs.LinearQuotients.{taps_read}
use Rattle.linear_rows.proofs.linear_quotients.write_linear_quotient.Goals as goal

pub try_few_linear_taps-requires-clause-reads : goal.try_few_linear_taps-requires-clause-reads
try_few_linear_taps-requires-clause-reads g c = λ k l.
    let points = c.args.points.now in
    let quotient = c.args.quotient.now in
    taps_read (g.S.NarrowSource.has c.args.source.now) points.row (points.col +ℤ pos k) quotient.sum.taps.items (formula_view quotient.formula.now)
    quotient.reads (c.requires.reads k l)

pub write_linear_parts-requires-clause-reads : goal.write_linear_parts-requires-clause-reads
write_linear_parts-requires-clause-reads g c = λ k l.
    let points = c.args.points.now in
    let quotient = c.args.quotient.now in
    taps_read (g.S.NarrowSource.has c.args.source.now) points.row (points.col +ℤ pos k) quotient.sum.taps.items (formula_view quotient.formula.now)
    quotient.reads (c.requires.reads k l)
