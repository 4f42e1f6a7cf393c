use Rattle.std.proofs.Common.{ap, length}
use Rattle.std.specs.Option.{option_map}
use Rattle.job.specs.Views.{formula_view}
use Rattle.tile_eval.proofs.Gathering.{reads_along}
use Rattle.tile_eval.proofs.source_row.SourceRow.evaluate_otherwise.Goals as goal

pub evaluate_formula-requires-clause-reads : goal.evaluate_formula-requires-clause-reads
evaluate_formula-requires-clause-reads g c =
    let other = c.requires.other (formula_view c.in-Some.formula) (ap (option_map formula_view) c.in-Some.is) in
    reads_along (g.S.RowSource.has c.args.self.now.source.now) c.args.self.now.points.row c.args.self.now.points.col (length c.args.out.now)
    (formula_view c.in-Some.formula) c.requires.some other.1 other.0
