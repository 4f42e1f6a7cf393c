use Rattle.std.proofs.Common.{◌≡◌, ℕ, IfNone, List, sym, subst}
use Rattle.catalog.specs.Entries.{StandsAt, ids_in}
use Rattle.identity.specs.declared.job_ids.JobId.{JobId}
use Rattle.gossip_core.specs.Steps.{WorldWork}
use Rattle.worlds.proofs.StepLaws.{none_lacking, scheduled}
use Rattle.worlds.proofs.planned.WorldJobs.find_schedule_of_key.Goals as goal

pub returns-in_err-job-clause-none : goal.returns-in_err-job-clause-none
returns-in_err-job-clause-none c =
    subst (λ o. IfNone o ((i : ℕ) → ¬ (StandsAt c.args.self.now.jobs (ids_in c.args.key.now) i))) (sym c.from_residual.ensures)
    (λ i at. c.in_err-job.ensures.none i (subst (λ (ids : JobId). StandsAt c.self.inside.catalog ids i) (sym c.from_key.ensures)
    (subst (λ (x : WorldWork). StandsAt x.jobs (ids_in c.args.key.now) i) (sym c.self.view_is) at)))

pub returns-clause-some : goal.returns-clause-some
returns-clause-some c =
    scheduled c.args.self.now _ c.self.view_is c.args.n c.in_ok-job.job c.args.key.now c.from_key.result c.from_key.ensures c.index.result.now
    c.requires c.index.ensures c.in_ok-job.ensures.some (λ s. s.now.inlining) c.find_schedule_of_job.result c.find_schedule_of_job.ensures

pub returns-clause-none : goal.returns-clause-none
returns-clause-none c =
    none_lacking c.args.self.now _ c.self.view_is c.args.n c.in_ok-job.job c.args.key.now c.from_key.result c.from_key.ensures
    c.index.result.now
    c.requires c.index.ensures c.in_ok-job.ensures.some c.self.invariant.each _ (λ s. s.now.inlining) c.find_schedule_of_job.result c.find_schedule_of_job.ensures
