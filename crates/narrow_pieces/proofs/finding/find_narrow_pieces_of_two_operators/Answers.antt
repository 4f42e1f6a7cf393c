use Rattle.std.proofs.Common.{rules, ◌≡◌, subst, sym}
use Rattle.job.specs.Formula.{Formula, binary}
use Rattle.job.specs.Views.{formula_view}
use Rattle.narrow_pieces.specs.Pieces.{ArePiecesOf}
use Rattle.narrow_pieces.proofs.finding.find_narrow_pieces_of_two_operators.Goals as goal

pub returns : goal.returns
returns c =
    let first = formula_view c.deref.result.now in
    let second = formula_view c.deref-2.result.now in
    let is : formula_view c.args.front.now ≡ binary c.in-Binary.inner first second = search rules in
    subst (λ (z : Formula). ArePiecesOf c.in_ok-pieces.pieces (binary c.args.op z (formula_view c.args.last.now))) (sym is)
    c.in_ok-pieces.ensures
