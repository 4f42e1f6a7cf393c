use Rattle.std.proofs.Common.{subst}
use Rattle.std.proofs.lemmas.Result.{IfOk-weaker}
use Rattle.farm.proofs.Members.{together_through}
use Rattle.farm.proofs.threads.fn.run_and_join_farm_threads.scope.Goals as goal

pub returns : goal.returns
returns g c =
    let made = c.in_ok-handles.ensures.handles in
    record {
      ends = IfOk-weaker c.join_farm_threads.result _ _
          (λ ends each. together_through _ _ _ (λ task handle end is kept. subst (λ t. g.T.FarmThreadTask.may_end t end) is kept)
          _ c.in_ok-handles.handles.items ends.items made each) c.join_farm_threads.ensures.ends;
      fault = c.join_farm_threads.ensures.fault;
    }
