use Rattle.std.proofs.Common.{◌∙◌}
use Rattle.stencil_kernels.proofs.Pieces.{first_piece}
use Rattle.stencil_kernels.proofs.Taps.{zero_wrapped}
use Rattle.stencil_kernels.proofs.row_sums.write_first_tap_sums_and_count_taps.Goals as goal

pub returns-in-Some-clause-sums : goal.returns-in-Some-clause-sums
returns-in-Some-clause-sums c = λ k h.
    first_piece 5 c.in-Some.five c.args.factors.now c.args.line.now k _ c.in-Some.ensures.is c.in-Some.ensures.many
    (c.write_symmetric_sums.ensures k h)

pub returns-in-Some-from_first_factors-clause-sums : goal.returns-in-Some-from_first_factors-clause-sums
returns-in-Some-from_first_factors-clause-sums c = λ k h.
    first_piece 5 c.in-Some-from_first_factors.five c.args.factors.now c.args.line.now k _ c.in-Some-from_first_factors.ensures.is c.in-Some-from_first_factors.ensures.many
    (c.write_sums.ensures k h)

pub returns-clause-sums : goal.returns-clause-sums
returns-clause-sums c = λ k h. c.fill_row.ensures k h ∙ zero_wrapped
