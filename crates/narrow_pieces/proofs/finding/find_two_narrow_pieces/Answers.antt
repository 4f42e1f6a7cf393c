use Rattle.job.specs.Views.{formula_view}
use Rattle.narrow_pieces.proofs.PieceLaws.{two_pieces}
use Rattle.narrow_pieces.proofs.finding.find_two_narrow_pieces.Goals as goal

pub returns : goal.returns
returns c =
    two_pieces c.args.op (formula_view c.args.front.now) (formula_view c.args.last.now) c.in_ok-a.a c.in_ok-b.b c.in_ok-join.join
    c.in_ok-a.ensures c.in_ok-b.ensures c.in_ok-join.ensures
