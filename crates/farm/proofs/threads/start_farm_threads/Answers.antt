use Rattle.std.proofs.Common.{◌∙◌, ap}
use Rattle.farm.proofs.Members.{together_more}
use Rattle.farm.proofs.threads.start_farm_threads.Goals as goal

pub loop-task-preserved : goal.loop-task-preserved
loop-task-preserved g c =
    together_more _ c.loop-task.yielded c.loop-task.handles.items _ _ c.in-Some.task c.in-Ok.handle c.loop-task.invariant
    c.in_ok-reserve.ensures.items c.push_reserved.ensures.items (ap (λ p. p.task.value) c.in-Ok.ensures.promised ∙ c.of.ensures)
