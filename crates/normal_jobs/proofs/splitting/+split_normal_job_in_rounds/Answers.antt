use Rattle.std.proofs.lemmas.Result.{IfOk-weaker}
use Rattle.job.specs.Kept.{pipeline_in}
use Rattle.normal_jobs.proofs.Answering.{answers_itself}
use Rattle.normal_jobs.proofs.Begins.{alike_in_steps}
use Rattle.normal_jobs.proofs.splitting.+split_normal_job_in_rounds.Goals as goal

pub returns-then-rounds-eq0-clause-alike : goal.returns-then-rounds-eq0-clause-alike
returns-then-rounds-eq0-clause-alike t c = answers_itself (pipeline_in c.args.job)

pub returns-in_default-clause-alike : goal.returns-in_default-clause-alike
returns-in_default-clause-alike t c = answers_itself (pipeline_in c.args.job)

pub returns-clause-alike : goal.returns-clause-alike
returns-clause-alike t c =
    IfOk-weaker c.split_normal_job_in_rounds.result _ _
    (λ made alike. alike_in_steps (pipeline_in c.args.job) (pipeline_in c.in_ok-split.split) (pipeline_in made) c.in_ok-split.ensures.alike alike)
    c.split_normal_job_in_rounds.ensures.alike
