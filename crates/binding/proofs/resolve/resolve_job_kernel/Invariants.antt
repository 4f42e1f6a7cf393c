use Rattle.std.proofs.Common.{◌≡◌, take}
use Rattle.binding.proofs.resolve.resolve_job_kernel.Given as goal

abbrev pub invariant-loop-row : goal.invariant-loop-row
invariant-loop-row l = l.rows.items ≡ take l.row-index l.kernel
