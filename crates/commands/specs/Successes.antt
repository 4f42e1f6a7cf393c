-- What a command that succeeds leaves to its caller: of `run` the run of its farm, of any other a finding.
use Rattle.std.specs.Prelude.{ℕ, List}
use Rattle.command_line.specs.declared.options.Options.{Options}
use Rattle.command_line.specs.declared.tasks.CommandTask.{CommandTask}
use Rattle.command_line.specs.declared.tasks.CommandTask.TheVariants.{Eval, Check, Plan, Run, Audit, World}
use Rattle.command_line.specs.declared.words.CommandRequest.{CommandRequest}
use Rattle.command_line.specs.declared.words.CommandRequest.TheVariants.{Merge, Job}
use Rattle.command_inputs.specs.Giving.{Given}
use Rattle.command_outcomes.specs.Outcomes.{Saying}
use Rattle.commands.specs.Sayings.{saying_by}
use Rattle.commands.specs.declared.success.RunCommandSuccess.{RunCommandSuccess}
use Rattle.commands.specs.declared.success.RunCommandSuccess.TheVariants.{Found, Ran}
use Rattle.fact_commands.specs.declared.finding.AuditFinding.{AuditFinding}
use Rattle.fact_commands.specs.declared.finding.AuditFinding.TheVariants.{NoFalse}
use Rattle.farm_commands.specs.FarmRuns.{IsRunOnInput}
use Rattle.farm_setup.specs.declared.setup.FarmSetup.{FarmSetup}

-- what was found; a farm judges nothing
abbrev pub finding_of : RunCommandSuccess → AuditFinding
finding_of (Found finding) = finding
finding_of (Ran run) = NoFalse

-- no farm ran
abbrev pub HasRunNone : RunCommandSuccess → Type 0
HasRunNone (Found finding) = Unit {0}
HasRunNone (Ran run) = ⊥

-- a farm of this setup ran on the job of the input, of which the bytes are the result
abbrev pub HasRunFarm : FarmSetup → Options → List Given → RunCommandSuccess → List ℕ → List ℕ → Type 0
HasRunFarm setup options given (Found finding) input bytes = ⊥
HasRunFarm setup options given (Ran run) input bytes = IsRunOnInput setup options given input bytes run

-- the farm of the task ran; only `run` has one
abbrev pub HasRunTask : CommandTask → Options → List Given → RunCommandSuccess → List ℕ → List ℕ → Type 0
HasRunTask Eval options given success input bytes = HasRunNone success
HasRunTask Check options given success input bytes = HasRunNone success
HasRunTask Plan options given success input bytes = HasRunNone success
HasRunTask (Run setup) options given success input bytes = HasRunFarm setup options given success input bytes
HasRunTask Audit options given success input bytes = HasRunNone success
HasRunTask (World nodes) options given success input bytes = HasRunNone success

-- the farm ran that is requested, with the options and the parameters of the request; or none is, and none ran
abbrev pub HasRunRequested : CommandRequest → RunCommandSuccess → List ℕ → List ℕ → Type 0
HasRunRequested Merge success input bytes = HasRunNone success
HasRunRequested (Job request) success input bytes =
    HasRunTask request.task request.options request.parameters.items success input bytes

-- the output of a command that succeeds so, which ran the farm that is requested, if one is
abbrev pub saying_success_by : CommandRequest → Saying RunCommandSuccess
saying_success_by request success input bytes =
    saying_by request (finding_of success) input bytes × HasRunRequested request success input bytes
