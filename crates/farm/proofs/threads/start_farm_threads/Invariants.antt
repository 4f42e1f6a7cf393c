use Rattle.std.proofs.Common.{◌≡◌}
use Rattle.farm.specs.Members.{BelongTogether}
use Rattle.farm.proofs.threads.start_farm_threads.Given as goal

abbrev pub invariant-loop-task : goal.invariant-loop-task
invariant-loop-task g l = BelongTogether (λ task handle. handle.promise.task.value ≡ task) l.yielded l.handles.items
