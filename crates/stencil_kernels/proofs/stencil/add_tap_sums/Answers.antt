use Rattle.std.proofs.Common.{arith, ℕ, ◌≡◌, ◌+◌, ◌<◌, ◌≤◌, ◌+ℤ◌, ◌*ℤ◌, length, ap, ◌∙◌}
use Rattle.domains.specs.Arithmetic.{wrapped}
use Rattle.operators.specs.Values.{sum_below}
use Rattle.row_loops.specs.Rows.{at}
use Rattle.stencil_kernels.proofs.Pieces.{piece_more}
use Rattle.stencil_kernels.proofs.stencil.add_tap_sums.Goals as goal

pub loop-b-preserved : goal.loop-b-preserved
loop-b-preserved c = record {
  within = omega arith;
  sums = λ k h s e.
      let lt : k < length c.loop-b.out = omega arith in
      let few : c.loop-b.b + c.add_first_tap_sums_and_count_taps-b.result ≤ length c.args.factors.now = omega arith in
      let enough : k + length c.args.factors.now ≤ length c.args.line.now = omega arith in
      piece_more s _ c.args.line.now c.args.factors.now k c.loop-b.b c.add_first_tap_sums_and_count_taps-b.result few enough
      (c.add_first_tap_sums_and_count_taps-b.ensures.sums k lt _ (c.loop-b.invariant.sums k lt s e));
}

pub returns : goal.returns
returns c = λ k h s e.
    let lt : k < length c.loop-b.out = omega arith in
    let all : c.loop-b.b ≡ length c.args.factors.now = omega arith in
    c.loop-b.invariant.sums k lt s e
    ∙ ap (λ (n : ℕ). wrapped (s +ℤ sum_below n (λ b. at c.args.factors.now b *ℤ at c.args.line.now (k + b)))) all
