use Rattle.std.proofs.Common.{rules, ◌≡◌, subst, sym}
use Rattle.job.specs.Formula.{Formula, binary}
use Rattle.job.specs.Views.{formula_view}
use Rattle.narrow_pieces.specs.Pieces.{ArePiecesOf}
use Rattle.narrow_pieces.proofs.finding.find_narrow_pieces_of_formula.Goals as goal

pub returns-in-Some : goal.returns-in-Some
returns-in-Some c =
    let front = formula_view c.deref.result.now in
    let last = formula_view c.deref-2.result.now in
    let is : formula_view c.args.formula.now ≡ binary c.in-Binary.op front last = search rules in
    subst (λ (z : Formula). ArePiecesOf c.in-Some.two z) (sym is) c.in-Some.ensures

pub returns-in_ok-three-in-None : goal.returns-in_ok-three-in-None
returns-in_ok-three-in-None c =
    let front = formula_view c.deref-in-None.result.now in
    let last = formula_view c.deref-in-None-2.result.now in
    let is : formula_view c.args.formula.now ≡ binary c.in-Binary.op front last = search rules in
    subst (λ (z : Formula). ArePiecesOf c.in_ok-three-in-None.three z) (sym is) c.in_ok-three-in-None.ensures
