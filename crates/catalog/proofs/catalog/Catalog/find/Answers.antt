use Rattle.std.proofs.Common.{List, sym, ◌∙◌, subst, map, length, ◌≤◌, arith, true≢false, refl}
use Rattle.std.proofs.lemmas.List.{length-map}
use Rattle.catalog.specs.Entries.{Entry, entry_of, StandsAt}
use Rattle.catalog.proofs.Standing.{entry_at, none_more, none_at_all}
use Rattle.catalog.proofs.catalog.Catalog.find.Goals as goal

pub returns-then-is_catalog_job_with_ids-clause-some : goal.returns-then-is_catalog_job_with_ids-clause-some
returns-then-is_catalog_job_with_ids-clause-some c =
    let jobs = c.jobs-jobs.result.now in
    let there =
    entry_at jobs (length jobs) c.loop-index.index c.index-jobs-index.result refl c.loop-index-test.true c.index-jobs-index.is in
    subst (λ (entries : List Entry). StandsAt entries c.args.ids.now c.loop-index.index) c.jobs-jobs.ensures.jobs
    (entry_of c.index-jobs-index.result, there, c.is_catalog_job_with_ids.ensures.0 c.if-is_catalog_job_with_ids.true)

pub loop-index-preserved : goal.loop-index-preserved
loop-index-preserved c =
    let jobs = c.jobs-jobs.result.now in
    let there =
    entry_at jobs (length jobs) c.loop-index.index c.index-jobs-index.result refl c.loop-index-test.true c.index-jobs-index.is in
    none_more (map entry_of jobs) c.args.ids.now c.loop-index.index (entry_of c.index-jobs-index.result) there
    (λ e. true≢false (sym (c.is_catalog_job_with_ids.ensures.1 e) ∙ c.if-is_catalog_job_with_ids.false)) c.loop-index.invariant

pub returns-clause-none : goal.returns-clause-none
returns-clause-none c =
    let jobs = c.jobs-jobs.result.now in
    let all = length-map jobs entry_of in
    let end = c.loop-index-test.false in
    let few : length (map entry_of jobs) ≤ c.loop-index.index = omega (arith, all, end) in
    λ i at. none_at_all (map entry_of jobs) c.args.ids.now c.loop-index.index few c.loop-index.invariant i
    (subst (λ (entries : List Entry). StandsAt entries c.args.ids.now i) (sym c.jobs-jobs.ensures.jobs) at)
