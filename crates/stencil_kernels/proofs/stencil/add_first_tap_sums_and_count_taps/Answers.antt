use Rattle.std.proofs.Common.{rules, arith, ◌≤◌, length, w32, FitsSigned}
use Rattle.std.proofs.lemmas.Int.{to_z-of_z}
use Rattle.row_loops.specs.Rows.{at}
use Rattle.stencil_kernels.proofs.Pieces.{piece_sum, piece_of_one}
use Rattle.stencil_kernels.proofs.stencil.add_first_tap_sums_and_count_taps.Goals as goal

pub returns-in-Some-clause-sums : goal.returns-in-Some-clause-sums
returns-in-Some-clause-sums c = λ k h s e.
    piece_sum 5 c.in-Some.five c.args.factors.now c.args.line.now k s _ _ c.in-Some.ensures.is c.in-Some.ensures.many e
    (c.add_symmetric_product_sums.ensures k h)

pub returns-in-Some-from_first_factors-clause-sums : goal.returns-in-Some-from_first_factors-clause-sums
returns-in-Some-from_first_factors-clause-sums c = λ k h s e.
    piece_sum 5 c.in-Some-from_first_factors.five c.args.factors.now c.args.line.now k s _ _ c.in-Some-from_first_factors.ensures.is c.in-Some-from_first_factors.ensures.many e
    (c.add_product_sums.ensures k h)

pub returns-clause-sums : goal.returns-clause-sums
returns-clause-sums c = λ k h s e.
    let factor : FitsSigned w32 (at c.args.factors.now 0) = search rules in
    let enough : length c.args.out.now ≤ length c.args.line.now = omega arith in
    piece_of_one s _ _ c.args.factors.now c.args.line.now k (length c.args.out.now) h enough (to_z-of_z w32 _ factor)
    (c.add_line_times_factor.ensures k h s e)
