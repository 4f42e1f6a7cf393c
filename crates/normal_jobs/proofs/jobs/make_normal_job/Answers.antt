use Rattle.std.proofs.lemmas.Result.{IfOk-weaker}
use Rattle.job.specs.Kept.{pipeline_in}
use Rattle.normal_jobs.proofs.Begins.{alike_in_steps}
use Rattle.normal_jobs.proofs.jobs.make_normal_job.Goals as goal

pub returns-clause-alike : goal.returns-clause-alike
returns-clause-alike c =
    IfOk-weaker c.split_normal_job.result _ _
    (λ made alike. alike_in_steps (pipeline_in c.args.job) (pipeline_in c.in_ok-joined.joined) (pipeline_in made) c.in_ok-joined.ensures.alike alike)
    c.split_normal_job.ensures.alike
