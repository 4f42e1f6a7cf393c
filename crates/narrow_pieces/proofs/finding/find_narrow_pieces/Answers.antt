use Rattle.std.proofs.Common.{map}
use Rattle.std.specs.Option.{option_map}
use Rattle.job.specs.Views.{case_view, formula_view}
use Rattle.narrow_pieces.proofs.PieceLaws.{function_of}
use Rattle.narrow_pieces.proofs.finding.find_narrow_pieces.Goals as goal

pub returns : goal.returns
returns c =
    let f = c.args.function.now in
    function_of c.in_ok-pieces.pieces (map case_view f.cases.items) (option_map formula_view f.otherwise) (formula_view c.in_ok-formula.formula.now)
    c.in_ok-formula.ensures.cases c.in_ok-formula.ensures.other c.in_ok-pieces.ensures
