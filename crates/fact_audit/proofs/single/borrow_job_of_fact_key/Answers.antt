use Rattle.std.proofs.Common.{subst, sym}
use Rattle.identity.specs.declared.job_ids.JobId.{JobId}
use Rattle.catalog.specs.Entries.{StandsAt}
use Rattle.fact_audit.proofs.single.borrow_job_of_fact_key.Goals as goal

pub returns-in-None-clause-none : goal.returns-in-None-clause-none
returns-in-None-clause-none c =
    λ i at. c.in-None.ensures.none i (subst (λ (ids : JobId). StandsAt c.args.catalog.now ids i) (sym c.from_key.ensures) at)
