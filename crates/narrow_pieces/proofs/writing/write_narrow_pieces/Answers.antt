use Rattle.std.proofs.Common.{arith, ◌<◌, map, ◌∙◌}
use Rattle.std.specs.Option.{option_map}
use Rattle.job.specs.Views.{case_view, formula_view}
use Rattle.narrow_pieces.proofs.PieceLaws.{function_ready, function_pieces}
use Rattle.narrow_pieces.proofs.writing.write_narrow_pieces.Goals as goal

pub write_extremes_of_narrow_pieces-requires-clause-ready : goal.write_extremes_of_narrow_pieces-requires-clause-ready
write_extremes_of_narrow_pieces-requires-clause-ready g c =
    let points = c.args.points.now in
    let f = c.args.function.now in
    let source = c.args.source.now in
    function_ready (g.S.NarrowSource.has source) (g.S.NarrowSource.samples source) points.row points.col points.len c.args.pieces.now
    (map case_view f.cases.items) (option_map formula_view f.otherwise) c.requires.pieces
    (λ k l. c.requires.narrow k (omega (arith, l, c.requires.fits)))
    (λ k l. c.requires.reads k (omega (arith, l, c.requires.fits)))

pub returns : goal.returns
returns g c = λ k l.
    let points = c.args.points.now in
    let f = c.args.function.now in
    let source = c.args.source.now in
    let short : k < points.len = omega (arith, l, c.requires.fits) in
    c.write_extremes_of_narrow_pieces.ensures k l
    ∙ function_pieces (g.S.NarrowSource.has source) (g.S.NarrowSource.samples source) points.row points.col points.len c.args.pieces.now
    (map case_view f.cases.items) (option_map formula_view f.otherwise) c.requires.pieces
    (λ j m. c.requires.narrow j (omega (arith, m, c.requires.fits))) k short
