use Rattle.std.proofs.Common.{ℕ, arith, subst, sym, ap, ◌∙◌}
use Rattle.catalog.specs.Entries.{StandsAt, entry_of, ids_in}
use Rattle.domains.proofs.Places.{ok_then}
use Rattle.identity.specs.declared.key.Key.{Key}
use Rattle.job.specs.declared.job.Job.{Job}
use Rattle.job.specs.Kept.{pipeline_in}
use Rattle.whole_stages.specs.Known.{IsServed}
use Rattle.fact_audit.specs.Verdicts.{IsJobVerdict}
use Rattle.fact_audit.proofs.Judging.{by_job}
use Rattle.fact_audit.proofs.single.audit.Goals as goal

pub returns-in_default : goal.returns-in_default
returns-in_default c =
    λ i at. c.in_default.ensures.none i (subst (λ (key : Key). StandsAt c.args.catalog.now (ids_in key) i) (sym c.key.ensures) at)

pub judge_fact_by_stages-requires : goal.judge_fact_by_stages-requires
judge_fact_by_stages-requires c =
    let known = c.in_ok-stages.stages.known.buffers.items in
    subst (λ (g : ℕ). IsServed (pipeline_in c.in_ok-stages.stages.job.now) known g)
    (c.from.ensures ∙ ap (λ (k : Key). k.stage) c.key-2.ensures)
    (subst (λ (j : Job). IsServed (pipeline_in j) known c.from.result) (sym c.in_ok-stages.ensures.job)
    (c.in_ok-stages.ensures.served 0 0 (omega arith)))

pub returns : goal.returns
returns c =
    let found = c.in-Some.ensures.some in
    ok_then c.judge_fact_by_stages.result c.judge_fact_by_stages.ensures (λ v p.
    by_job c.args.catalog.now c.args.fact.now v c.in-Some.ensures.catalog
    (record {
      index = found.0;
      entry = entry_of c.in-Some.job.now;
      there = found.1;
      ids = found.2 ∙ ap ids_in c.key.ensures;
      holds = subst (λ (j : Job). IsJobVerdict (pipeline_in j) c.args.fact.now v) c.in_ok-stages.ensures.job p;
    }))
