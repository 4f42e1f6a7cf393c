use Rattle.job.specs.Views.{formula_view}
use Rattle.narrow_pieces.proofs.PieceLaws.{three_pieces}
use Rattle.narrow_pieces.proofs.finding.find_three_narrow_pieces.Goals as goal

pub returns : goal.returns
returns c =
    three_pieces c.args.inner (formula_view c.args.first.now) (formula_view c.args.second.now) c.in_ok-a.a c.in_ok-b.b c.in_ok-join.join
    c.in_ok-a.ensures c.in_ok-b.ensures c.in_ok-join.ensures c.args.op (formula_view c.args.last.now) c.in_ok-c.c
    c.in_ok-last_join.last_join c.in_ok-c.ensures c.in_ok-last_join.ensures
