use Rattle.job.specs.Views.{formula_view}
use Rattle.narrow_pieces.proofs.PieceLaws.{unpeeled}
use Rattle.narrow_pieces.proofs.finding.peel_narrow_piece.Goals as goal

pub loop-init : goal.loop-init
loop-init c =
    unpeeled c.identity_on_narrow_numbers.result (formula_view c.args.formula.now) c.identity_on_narrow_numbers.ensures.value
    c.identity_on_narrow_numbers.ensures.fits
