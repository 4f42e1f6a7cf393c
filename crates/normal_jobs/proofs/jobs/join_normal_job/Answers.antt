use Rattle.std.proofs.Common.{rules, List, map, subst, sym}
use Rattle.job.specs.Kept.{pipeline_in}
use Rattle.job.specs.Pipeline.{Pipeline, Stage}
use Rattle.job.specs.Reads.{IsRanked}
use Rattle.job.specs.Views.{stage_view}
use Rattle.joined_formulas.specs.declared.known.StageFormula.{StageFormula}
use Rattle.normal_jobs.specs.Alike.{AnswersAlike}
use Rattle.normal_jobs.specs.StandIns.{StandForStages}
use Rattle.normal_jobs.proofs.StayingJobs.{job_stays}
use Rattle.normal_jobs.proofs.Answering.{answers_alike, answers_itself}
use Rattle.normal_jobs.proofs.jobs.join_normal_job.Goals as goal

pub with_stages-requires : goal.with_stages-requires
with_stages-requires c =
    let known : List StageFormula = c.deref.result.now in
    let made : List Stage = map stage_view c.in-Some.stages.items in
    let job : Pipeline = pipeline_in c.args.job in
    let stands : StandForStages known job.stages made = search rules in
    let ranked : IsRanked made = search rules in
    job_stays known job made stands c.args.job.well (search rules) ranked

pub returns-in-Some-clause-alike : goal.returns-in-Some-clause-alike
returns-in-Some-clause-alike c =
    let known : List StageFormula = c.deref.result.now in
    let made : List Stage = map stage_view c.in-Some.stages.items in
    let job : Pipeline = pipeline_in c.args.job in
    let stands : StandForStages known job.stages made = search rules in
    let ranked : IsRanked made = search rules in
    subst (λ (other : Pipeline). AnswersAlike job other) (sym c.with_stages.ensures.pipeline)
    (answers_alike known job c.args.job.well (search rules) made ranked stands)

pub returns-clause-alike : goal.returns-clause-alike
returns-clause-alike c = answers_itself (pipeline_in c.args.job)
