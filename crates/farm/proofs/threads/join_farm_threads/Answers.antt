use Rattle.farm.proofs.Members.{together_more}
use Rattle.farm.proofs.threads.join_farm_threads.Goals as goal

pub loop-handle-preserved : goal.loop-handle-preserved
loop-handle-preserved g c =
    together_more _ c.loop-handle.yielded c.loop-handle.ends.items _ _ c.in-Some.handle c.join.result c.loop-handle.invariant
    c.in_ok-reserve.ensures.items c.push_reserved.ensures.items c.join.ensures
