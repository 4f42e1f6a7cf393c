use Rattle.job.specs.Views.{formula_view}
use Rattle.narrow_pieces.proofs.PieceLaws.{peeled}
use Rattle.narrow_pieces.proofs.finding.peel_narrow_piece_operator.Goals as goal

pub returns : goal.returns
returns c = λ whole h.
    peeled c.args.of.map c.in_ok-map.map c.in_ok-step.step (formula_view c.in_ok-step.formula.now) (formula_view c.args.of.formula.now) whole
    c.in_ok-step.ensures c.in_ok-map.ensures.value c.in_ok-map.ensures.fits h
