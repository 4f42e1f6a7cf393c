use Rattle.std.proofs.Common.{rules, List, map, subst, sym}
use Rattle.job.specs.Kept.{pipeline_in}
use Rattle.job.specs.Pipeline.{Pipeline, Stage}
use Rattle.job.specs.OtherStages.{with_stages}
use Rattle.job.specs.Reads.{IsRanked}
use Rattle.job.specs.Views.{stage_view}
use Rattle.joined_formulas.specs.declared.known.StageFormula.{StageFormula}
use Rattle.part_stages.specs.Parts.{job_with, stages_with}
use Rattle.normal_jobs.specs.Alike.{AnswersAlike}
use Rattle.normal_jobs.specs.StandIns.{StandForStages}
use Rattle.normal_jobs.proofs.Answering.{answers_alike, answers_itself}
use Rattle.normal_jobs.proofs.Begins.{alike_in_steps, alike_with_more}
use Rattle.normal_jobs.proofs.StayingJobs.{job_stays}
use Rattle.normal_jobs.proofs.splitting.split_normal_job_by_parts.Goals as goal

pub with_stages-requires : goal.with_stages-requires
with_stages-requires c =
    let known : List StageFormula = c.args.parts.now.known.items in
    let made : List Stage = map stage_view c.in-Some.stages.items in
    let job : Pipeline = pipeline_in c.args.job in
    let stands : StandForStages known (stages_with job c.args.parts.now) made = search rules in
    let ranked : IsRanked made = search rules in
    job_stays known (job_with job c.args.parts.now) made stands c.requires.formed c.requires.known ranked

pub returns-in-Some-clause-alike : goal.returns-in-Some-clause-alike
returns-in-Some-clause-alike c =
    let known : List StageFormula = c.args.parts.now.known.items in
    let made : List Stage = map stage_view c.in-Some.stages.items in
    let job : Pipeline = pipeline_in c.args.job in
    let stands : StandForStages known (stages_with job c.args.parts.now) made = search rules in
    let ranked : IsRanked made = search rules in
    subst (AnswersAlike job) (sym c.with_stages.ensures.pipeline)
    (alike_in_steps job (job_with job c.args.parts.now) (with_stages made job) (alike_with_more job c.args.parts.now c.requires)
    (answers_alike known (job_with job c.args.parts.now) c.requires.formed c.requires.known made ranked stands))

pub returns-in-None-clause-alike : goal.returns-in-None-clause-alike
returns-in-None-clause-alike c = answers_itself (pipeline_in c.args.job)
