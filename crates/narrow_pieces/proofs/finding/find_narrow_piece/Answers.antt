use Rattle.std.proofs.Common.{rules, ◌≡◌, pos}
use Rattle.job.specs.Formula.{read}
use Rattle.job.specs.Views.{formula_view}
use Rattle.narrow_pieces.proofs.PieceLaws.{read_piece}
use Rattle.narrow_pieces.proofs.finding.find_narrow_piece.Goals as goal

pub returns-in-Read : goal.returns-in-Read
returns-in-Read c =
    let of = formula_view c.peel_narrow_piece-peeled.result.formula.now in
    let is : of ≡ read c.in-Read.stage c.in-Read.row c.in-Read.col = search rules in
    let mul : c.in-Read.col.mul ≡ pos 1 = search rules in
    let div : c.in-Read.col.div ≡ pos 1 = search rules in
    read_piece _ of (formula_view c.args.formula.now) is (mul, div) c.peel_narrow_piece-peeled.ensures
