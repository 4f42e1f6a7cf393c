use Rattle.std.proofs.Common.{arith}
use Rattle.std.proofs.lemmas.List.Elements.{filter_map-append}
use Rattle.std.proofs.lemmas.Grind.{common_steps}
use Rattle.command_inputs.proofs.programs.collect_input_fault_stage_names.Goals as goal
use Rattle.command_inputs.proofs.programs.collect_input_fault_stage_names.Goals.{in-Some+in_ok-push, in_default}

pub loop-number-preserved : goal.loop-number-preserved
loop-number-preserved c =
    elim c.match-find_declared_name_for_input_fault.branch [
      | in-Some+in_ok-push w ↦ grind (arith, common_steps, filter_map-append)
      | in_default w ↦ grind
          (arith, common_steps, filter_map-append)
    ]
