use Rattle.std.proofs.Common.{◌≡◌, None, replicate}
use Rattle.whole_stages.proofs.buffers.StageBuffers.new.Given as goal

abbrev pub invariant-loop : goal.invariant-loop
invariant-loop l = l.buffers.items ≡ replicate l.counter None
