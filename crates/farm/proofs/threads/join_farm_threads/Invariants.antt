use Rattle.farm.specs.Members.{BelongTogether}
use Rattle.farm.proofs.threads.join_farm_threads.Given as goal

abbrev pub invariant-loop-handle : goal.invariant-loop-handle
invariant-loop-handle g l = BelongTogether (λ handle end. g.T.FarmThreadTask.may_end handle.promise.task.value end) l.yielded l.ends.items
