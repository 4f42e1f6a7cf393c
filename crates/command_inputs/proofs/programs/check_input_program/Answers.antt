use Rattle.std.proofs.Common.{sym, ap, ◌∙◌, subst}
use Rattle.pipe_tree.specs.Tree.{declarations}
use Rattle.pipe_tree.specs.Content.{items_of}
use Rattle.pipe_checks.specs.Checking.{IsFault}
use Rattle.command_inputs.proofs.programs.check_input_program.Goals as goal

pub convert_check_fault_to_input_fault-requires : goal.convert_check_fault_to_input_fault-requires
convert_check_fault_to_input_fault-requires c =
    subst (λ is. IsFault (declarations is) c.in-Err.fault) (sym (c.items.ensures ∙ ap items_of c.in-Err.ensures.back))
    c.in-Err.ensures.fault
