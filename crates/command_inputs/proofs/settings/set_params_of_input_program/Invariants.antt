use Rattle.std.proofs.Common.{take}
use Rattle.command_inputs.specs.Giving.{AreGiven}
use Rattle.command_inputs.proofs.settings.set_params_of_input_program.Given as goal

abbrev pub invariant-loop-name : goal.invariant-loop-name
invariant-loop-name l = AreGiven l.fn.params (take l.name-index l.given) l.params
