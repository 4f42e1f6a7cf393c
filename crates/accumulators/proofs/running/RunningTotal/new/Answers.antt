use Rattle.std.proofs.Common.{length, ap, ◌∙◌}
use Rattle.accumulators.proofs.TotalsOfAnswer.{length-starts}
use Rattle.accumulators.proofs.running.RunningTotal.new.Goals as goal

pub invariant_of-result : goal.invariant_of-result
invariant_of-result c = record { count = ap length c.in_ok-create_start_bins.ensures ∙ length-starts c.args.op c.args.span.now }
