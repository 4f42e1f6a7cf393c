use Rattle.job.specs.Views.{formula_view}
use Rattle.narrow_pieces.specs.inside.Steps.{IsMapped}
use Rattle.narrow_pieces.proofs.finding.peel_narrow_piece.Given as goal

abbrev pub invariant-loop : goal.invariant-loop
invariant-loop l = IsMapped l.peeled.map (formula_view l.peeled.formula.now) (formula_view l.formula)
