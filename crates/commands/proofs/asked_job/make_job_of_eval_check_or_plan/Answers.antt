use Rattle.std.proofs.Common.{◌∙◌, sym, subst}
use Rattle.std.proofs.lemmas.Result.{IfOk-weaker}
use Rattle.job.specs.Kept.{pipeline_in}
use Rattle.commands.specs.declared.question.JobQuestion.{JobQuestion}
use Rattle.commands.specs.inside.Questions.{saying_of}
use Rattle.commands.proofs.NormalResults.{same_result_in_normal_form}
use Rattle.commands.proofs.asked_job.make_job_of_eval_check_or_plan.Goals as goal

pub returns-in-Answer-clause-saying : goal.returns-in-Answer-clause-saying
returns-in-Answer-clause-saying c =
    IfOk-weaker c.make_normal_job.result _ _
    (λ made alike stored percent tree bytes says.
    subst (λ (q : JobQuestion). saying_of q stored percent tree (pipeline_in c.args.job) bytes) (sym c.in-Answer.is)
    (subst (λ (q : JobQuestion). saying_of q stored percent tree (pipeline_in made) bytes) c.in-Answer.is says
    ∙ same_result_in_normal_form (pipeline_in c.args.job) (pipeline_in made) alike))
    c.make_normal_job.ensures.alike
