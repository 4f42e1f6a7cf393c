use Rattle.std.proofs.Common.{◌∙◌, sym}
use Rattle.node_state.proofs.StateLaws.{retired, retired_again, retired_state}
use Rattle.node_state.proofs.state.NodeState.retire.Goals as goal

pub returns-then-has_retired_job-clause-retired : goal.returns-then-has_retired_job-clause-retired
returns-then-has_retired_job-clause-retired g c =
    retired_again c.args.self.now c.args.ids.now c.has_retired_job.ensures.state (sym c.has_retired_job.ensures.retired ∙ c.if-has_retired_job.true)

pub invariant_of-self-2 : goal.invariant_of-self-2
invariant_of-self-2 g c =
    retired_state c.self.inside.held c.self.inside.retired c.args.self.now c.self.view_is c.self.invariant c.args.ids.now c.remove_facts_of_jobs.new.self
    c.add_job_id.new.self c.remove_facts_of_jobs.ensures c.in_ok-add_job_id.ensures.added

pub returns-clause-retired : goal.returns-clause-retired
returns-clause-retired g c =
    retired c.self.inside.held c.self.inside.retired c.args.self.now c.self.view_is c.self.invariant c.args.ids.now c.remove_facts_of_jobs.new.self
    c.add_job_id.new.self c.remove_facts_of_jobs.ensures c.in_ok-add_job_id.ensures.added
