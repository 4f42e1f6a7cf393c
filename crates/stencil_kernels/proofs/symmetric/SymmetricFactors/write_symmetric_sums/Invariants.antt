use Rattle.std.proofs.Common.{◌≡◌}
use Rattle.domains.specs.Arithmetic.{wrapped}
use Rattle.row_loops.specs.Rows.{EachPlace, at}
use Rattle.stencil_kernels.specs.Stencil.{tap_sum}
use Rattle.stencil_kernels.proofs.symmetric.SymmetricFactors.write_symmetric_sums.Given as goal

abbrev pub invariant-loop-k : goal.invariant-loop-k
invariant-loop-k l = EachPlace l.k (λ k. at l.out k ≡ wrapped (tap_sum l.fn.self l.line k))
