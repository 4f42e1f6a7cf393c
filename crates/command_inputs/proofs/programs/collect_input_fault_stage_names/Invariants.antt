use Rattle.std.proofs.Common.{◌≡◌, take}
use Rattle.command_inputs.specs.Faults.{names_of}
use Rattle.command_inputs.proofs.programs.collect_input_fault_stage_names.Given as goal

abbrev pub invariant-loop-number : goal.invariant-loop-number
invariant-loop-number l = l.names.items ≡ names_of l.stages (take l.number-index l.numbers)
