use Rattle.std.proofs.Common.{◌≡◌}
use Rattle.std.specs.Vec.{vec_len}
use Rattle.ring_inputs.proofs.adding.add_ring_inputs_to_totals.Given as goal

abbrev pub invariant-loop-place : goal.invariant-loop-place
invariant-loop-place l = record {
  job : l.totals.job ≡ l.fn.totals.job;
  count : vec_len l.totals.totals ≡ vec_len l.fn.totals.totals;
}
