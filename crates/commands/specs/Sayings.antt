-- The output of each command, and the faults with which it refuses an input.
use Rattle.std.specs.Prelude.{◌≡◌, List}
use Rattle.command_line.specs.declared.options.Options.{Options}
use Rattle.command_line.specs.declared.tasks.CommandTask.{CommandTask}
use Rattle.command_line.specs.declared.tasks.CommandTask.TheVariants.{Eval, Check, Plan, Run, Audit, World}
use Rattle.command_line.specs.declared.words.CommandRequest.{CommandRequest}
use Rattle.command_line.specs.declared.words.CommandRequest.TheVariants.{Merge, Job}
use Rattle.command_inputs.specs.Giving.{Given}
use Rattle.command_outcomes.specs.Outcomes.{Refusing, Saying, refusing_job, saying_of_job}
use Rattle.fact_commands.specs.FactFaults.{refusing_audit, refusing_merge}
use Rattle.fact_commands.specs.FactSayings.{saying_of_audit}
use Rattle.fact_commands.specs.Auditing.{SaysVerdicts}
use Rattle.commands.specs.Listing.{SaysCheck}
use Rattle.fact_commands.specs.Merging.{saying_join}
use Rattle.commands.specs.Planning.{SaysPlan}
use Rattle.command_jobs.specs.Results.{SaysResult}
use Rattle.fact_commands.specs.declared.finding.AuditFinding.{AuditFinding}
use Rattle.farm_commands.specs.RunFaults.{refusing_run}
use Rattle.fact_commands.specs.declared.finding.AuditFinding.TheVariants.{NoFalse}
use Rattle.world_commands.specs.WorldFaults.{refusing_world}
use Rattle.world_commands.specs.WorldSayings.{saying_of_world}

-- a command that judges no fact finds none that is false
abbrev pub finding_none : Saying (Unit {0}) → Saying AuditFinding
finding_none Says found input bytes = (found ≡ NoFalse) × Says tt input bytes

-- ---- tasks on a program and a picture

abbrev pub saying_of_task : CommandTask → Options → List Given → Saying AuditFinding
saying_of_task Eval options given = finding_none (saying_of_job SaysResult given options.sides)
saying_of_task Check options given = finding_none (saying_of_job SaysCheck given options.sides)
saying_of_task Plan options given = finding_none (saying_of_job (SaysPlan options.stored options.percent) given options.sides)
saying_of_task (Run farm) options given = finding_none (saying_of_job SaysResult given options.sides)
saying_of_task Audit options given = saying_of_audit SaysVerdicts given options.sides
saying_of_task (World nodes) options given = finding_none (saying_of_world nodes options given)

abbrev pub refusing_of_task : CommandTask → Options → List Given → Refusing
refusing_of_task Eval options given = refusing_job given options.sides
refusing_of_task Check options given = refusing_job given options.sides
refusing_of_task Plan options given = refusing_job given options.sides
refusing_of_task (Run farm) options given = refusing_run given options.sides
refusing_of_task Audit options given = refusing_audit given options.sides
refusing_of_task (World nodes) options given = refusing_world given options.sides

-- ---- requests

abbrev pub saying_by : CommandRequest → Saying AuditFinding
saying_by Merge = finding_none saying_join
saying_by (Job request) = saying_of_task request.task request.options request.parameters.items

abbrev pub refusing_by : CommandRequest → Refusing
refusing_by Merge = refusing_merge
refusing_by (Job request) = refusing_of_task request.task request.options request.parameters.items
