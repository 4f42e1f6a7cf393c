use Rattle.std.proofs.Common.{sym, true≢false, ◌∙◌, ap, subst, length, ◌<◌, arith}
use Rattle.std.proofs.lemmas.List.{length-map}
use Rattle.identity.specs.declared.job_ids.JobId.{JobId}
use Rattle.catalog.specs.Entries.{entry_of, StandsAt}
use Rattle.catalog.proofs.Standing.{twin_at}
use Rattle.catalog.proofs.catalog.Catalog.find_admit_fault.Goals as goal

pub returns-then-has_same_program_and_input-clause-some : goal.returns-then-has_same_program_and_input-clause-some
returns-then-has_same_program_and_input-clause-some c =
    let job = c.index-jobs-index.result in
    let there =
    twin_at c.args.self.now c.jobs.result.now c.compute_catalog_job_ids.result c.in-Some.index job c.jobs.ensures.jobs c.in-Some.ensures.some c.index-jobs-index.is in
    (entry_of job, there.0, there.1 ∙ c.compute_catalog_job_ids.ensures, c.has_same_program_and_input.ensures.0 c.if-has_same_program_and_input.true)

pub returns-in-Some-clause-some : goal.returns-in-Some-clause-some
returns-in-Some-clause-some c =
    let job = c.index-jobs-index.result in
    let there =
    twin_at c.args.self.now c.jobs.result.now c.compute_catalog_job_ids.result c.in-Some.index job c.jobs.ensures.jobs c.in-Some.ensures.some c.index-jobs-index.is in
    (entry_of job, there.0, there.1 ∙ c.compute_catalog_job_ids.ensures, λ alike. true≢false (sym (c.has_same_program_and_input.ensures.1 alike) ∙ c.if-has_same_program_and_input.false))

pub returns-then-jobs-eq-MOST_JOBS-clause-some : goal.returns-then-jobs-eq-MOST_JOBS-clause-some
returns-then-jobs-eq-MOST_JOBS-clause-some c = (
  λ i at. c.in_default.ensures.none i (subst (λ (ids : JobId). StandsAt c.args.self.now ids i) (sym c.compute_catalog_job_ids.ensures) at),
  sym (ap length c.jobs-2.ensures.jobs) ∙ length-map c.jobs-2.result.now entry_of ∙ c.if-jobs-eq-MOST_JOBS.true,
)

pub returns-clause-none : goal.returns-clause-none
returns-clause-none c =
    let all = sym (ap length c.jobs-2.ensures.jobs) ∙ length-map c.jobs-2.result.now entry_of in
    let few = c.jobs-2.ensures.catalog.few in
    let full = c.if-jobs-eq-MOST_JOBS.false in
    let less : length c.args.self.now < 16 = omega (arith, all, few, full) in
    (λ i at. c.in_default.ensures.none i (subst (λ (ids : JobId). StandsAt c.args.self.now ids i) (sym c.compute_catalog_job_ids.ensures) at), less)
