use Rattle.std.proofs.Common.{arith, ◌≡◌, ◌+◌, ◌<◌, ◌≤◌, ◌*ℤ◌, ℕ, length, ap, ◌∙◌}
use Rattle.domains.specs.Arithmetic.{wrapped}
use Rattle.operators.specs.Values.{sum_below}
use Rattle.row_loops.specs.Rows.{at}
use Rattle.stencil_kernels.proofs.Pieces.{rest_more}
use Rattle.stencil_kernels.proofs.row_sums.write_tap_sums.Goals as goal

pub returns-then-b-factors : goal.returns-then-b-factors
returns-then-b-factors c = λ k h.
    let few : c.write_first_tap_sums_and_count_taps-b.result ≤ length c.args.factors.now = omega arith in
    let enough : k + length c.args.factors.now ≤ length c.args.line.now = omega arith in
    let after : k < length c.write_first_tap_sums_and_count_taps-b.new.out = omega arith in
    rest_more _ c.args.line.now c.args.factors.now k c.write_first_tap_sums_and_count_taps-b.result few enough
    (c.add_tap_sums.ensures k after _ (c.write_first_tap_sums_and_count_taps-b.ensures.sums k h))

pub returns-else-b-factors : goal.returns-else-b-factors
returns-else-b-factors c = λ k h.
    let all : c.write_first_tap_sums_and_count_taps-b.result ≡ length c.args.factors.now = omega arith in
    c.write_first_tap_sums_and_count_taps-b.ensures.sums k h
    ∙ ap (λ (n : ℕ). wrapped (sum_below n (λ b. at c.args.factors.now b *ℤ at c.args.line.now (k + b)))) all
