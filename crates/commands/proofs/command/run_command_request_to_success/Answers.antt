use Rattle.std.proofs.Common.{refl}
use Rattle.command_jobs.specs.Results.{SaysResult}
use Rattle.command_line.specs.declared.tasks.CommandTask.TheVariants.{Audit, Check, Eval, Plan, Run, World}
use Rattle.command_outcomes.specs.Outcomes.{saying_of_job}
use Rattle.commands.specs.Listing.{SaysCheck}
use Rattle.commands.specs.Planning.{SaysPlan}
use Rattle.commands.specs.declared.success.RunCommandSuccess.TheVariants.{Found, Ran}
use Rattle.fact_commands.specs.Auditing.{SaysVerdicts}
use Rattle.fact_commands.specs.FactSayings.{saying_of_audit}
use Rattle.fact_commands.specs.declared.finding.AuditFinding.TheVariants.{NoFalse}
use Rattle.farm_commands.proofs.FarmRuns.{run_says}
use Rattle.farm_commands.specs.FarmRuns.{saying_of_run}
use Rattle.world_commands.specs.WorldSayings.{saying_of_world}
use Rattle.commands.proofs.Replying.{merge_success, task_success}
use Rattle.commands.proofs.command.run_command_request_to_success.Goals as goal

pub returns-in-Merge-clause-written : goal.returns-in-Merge-clause-written
returns-in-Merge-clause-written g c =
    merge_success c.args.request.now _ c.merge_stream.result c.map_run_command_success_to_no_false.result _ _ c.in-Merge.is
    c.map_run_command_success_to_no_false.ensures c.merge_stream.ensures.written

pub returns-in-Eval-clause-written : goal.returns-in-Eval-clause-written
returns-in-Eval-clause-written g c =
    let job = c.in-Job.request in
    let given = c.as_slice-parameters.result.now in
    task_success (λ answer. Found NoFalse) (saying_of_job SaysResult given job.options.sides)
    c.args.request.now job Eval given _ c.eval_stream.result c.map_run_command_success_to_no_false-in-Eval.result _ _ c.in-Job.is c.in-Eval.is
    c.as_slice-parameters.ensures.value c.map_run_command_success_to_no_false-in-Eval.ensures
    (λ answer input bytes says. ((refl, says), tt)) c.eval_stream.ensures.written

pub returns-in-Check-clause-written : goal.returns-in-Check-clause-written
returns-in-Check-clause-written g c =
    let job = c.in-Job.request in
    let given = c.as_slice-parameters.result.now in
    task_success (λ answer. Found NoFalse) (saying_of_job SaysCheck given job.options.sides)
    c.args.request.now job Check given _ c.check_stream.result c.map_run_command_success_to_no_false-in-Check.result _ _ c.in-Job.is c.in-Check.is
    c.as_slice-parameters.ensures.value c.map_run_command_success_to_no_false-in-Check.ensures
    (λ answer input bytes says. ((refl, says), tt)) c.check_stream.ensures.written

pub returns-in-Plan-clause-written : goal.returns-in-Plan-clause-written
returns-in-Plan-clause-written g c =
    let job = c.in-Job.request in
    let given = c.as_slice-parameters.result.now in
    task_success (λ answer. Found NoFalse) (saying_of_job (SaysPlan job.options.stored job.options.percent) given job.options.sides)
    c.args.request.now job Plan given _ c.plan_stream.result c.map_run_command_success_to_no_false-in-Plan.result _ _ c.in-Job.is c.in-Plan.is
    c.as_slice-parameters.ensures.value c.map_run_command_success_to_no_false-in-Plan.ensures
    (λ answer input bytes says. ((refl, says), tt)) c.plan_stream.ensures.written

pub returns-in-Run-clause-written : goal.returns-in-Run-clause-written
returns-in-Run-clause-written g c =
    let job = c.in-Job.request in
    let given = c.as_slice-parameters.result.now in
    task_success (λ run. Ran run) (saying_of_run c.in-Run.farm job.options given)
    c.args.request.now job (Run c.in-Run.farm) given _ c.run_stream.result c.map_run_command_farm_to_success.result _ _ c.in-Job.is c.in-Run.is
    c.as_slice-parameters.ensures.value c.map_run_command_farm_to_success.ensures
    (λ run input bytes is. ((refl, run_says c.in-Run.farm job.options given input bytes run is), is)) c.run_stream.ensures.written

pub returns-in-Audit-clause-written : goal.returns-in-Audit-clause-written
returns-in-Audit-clause-written g c =
    let job = c.in-Job.request in
    let given = c.as_slice-parameters.result.now in
    task_success (λ finding. Found finding) (saying_of_audit SaysVerdicts given job.options.sides)
    c.args.request.now job Audit given _ c.audit_stream.result c.map_run_command_finding_to_success.result _ _ c.in-Job.is c.in-Audit.is
    c.as_slice-parameters.ensures.value c.map_run_command_finding_to_success.ensures
    (λ answer input bytes says. (says, tt)) c.audit_stream.ensures.written

pub returns-in-World-clause-written : goal.returns-in-World-clause-written
returns-in-World-clause-written g c =
    let job = c.in-Job.request in
    let given = c.as_slice-parameters.result.now in
    task_success (λ answer. Found NoFalse) (saying_of_world c.in-World.nodes job.options given)
    c.args.request.now job (World c.in-World.nodes) given _ c.world_stream.result c.map_run_command_success_to_no_false-in-World.result _ _ c.in-Job.is c.in-World.is
    c.as_slice-parameters.ensures.value c.map_run_command_success_to_no_false-in-World.ensures
    (λ answer input bytes says. ((refl, says), tt)) c.world_stream.ensures.written
