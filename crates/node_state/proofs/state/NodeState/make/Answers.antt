use Rattle.std.proofs.Common.{subst, sym}
use Rattle.held_facts.specs.Making.{AreNeedsTrue}
use Rattle.states.specs.States.{State}
use Rattle.node_state.proofs.state.NodeState.make.Goals as goal

pub returns-then-has_retired_job-clause-fault : goal.returns-then-has_retired_job-clause-fault
returns-then-has_retired_job-clause-fault g c = c.choose_make_fault_for_retired_key.ensures c.args.schedule.now.inlining

pub returns-clause-right : goal.returns-clause-right
returns-clause-right g c = λ h.
    c.make.ensures.right
    (subst (λ (s : State). AreNeedsTrue c.args.catalog.now s.facts c.args.schedule.now.inlining c.args.key.now) (sym c.self.view_is) h)
