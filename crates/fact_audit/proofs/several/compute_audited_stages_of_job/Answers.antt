use Rattle.std.proofs.Common.{ℕ, List, subst, sym}
use Rattle.catalog.specs.Entries.{entry_of, ids_of}
use Rattle.identity.specs.declared.job_ids.JobId.{JobId}
use Rattle.fact_audit.specs.inside.Ready.{AreNamed}
use Rattle.fact_audit.proofs.Serving.{stages_serve}
use Rattle.fact_audit.proofs.several.compute_audited_stages_of_job.Goals as goal

pub returns : goal.returns
returns c =
    let facts = c.args.facts.now in
    let named = c.in_ok-stages.stages.items in
    stages_serve facts c.args.job.now c.deref.result.now c.from_job.result c.from_job.ensures.job c.from_job.ensures.served
    (subst (λ (stages : List ℕ). AreNamed (ids_of (entry_of c.args.job.now)) facts stages) (sym c.deref.ensures.value)
    (subst (λ (ids : JobId). AreNamed ids facts named) c.compute_catalog_job_ids.ensures c.in_ok-stages.ensures))
