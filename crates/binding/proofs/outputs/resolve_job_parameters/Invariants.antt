use Rattle.std.proofs.Common.{◌≡◌, map, take}
use Rattle.binding.specs.Binding.{parameter_of}
use Rattle.job.specs.Views.{parameter_view}
use Rattle.binding.proofs.outputs.resolve_job_parameters.Given as goal

abbrev pub invariant-loop-setting : goal.invariant-loop-setting
invariant-loop-setting l = map parameter_view l.parameters.items ≡ map parameter_of (take l.setting-index l.settings)
