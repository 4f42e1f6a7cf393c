use Rattle.std.proofs.Common.{subst}
use Rattle.job.specs.Kept.{pipeline_in, program_text_in}
use Rattle.pipe_checks.specs.CheckedProgram.{CheckedProgram}
use Rattle.pipe_checks.specs.Checking.{params_in, stages_in, tables_in}
use Rattle.command_inputs.specs.inside.Steps.{TellsBind}
use Rattle.command_inputs.proofs.Known.{job_made, job_text, late_fault}
use Rattle.command_inputs.proofs.jobs.check_and_bind_input_job.Goals as goal

pub returns-in-Ok-clause-made : goal.returns-in-Ok-clause-made
returns-in-Ok-clause-made c =
    job_made c.args.given.now c.args.sides c.args.tree c.args.tables.items c.args.picture c.in_ok-checked.checked c.in_ok-params.params
    (pipeline_in c.in-Ok.job) c.in_ok-checked.ensures.ok c.in_ok-params.ensures.ok c.in-Ok.ensures.ok c.in-Ok.ensures.says

pub returns-in-Ok-clause-text : goal.returns-in-Ok-clause-text
returns-in-Ok-clause-text c =
    job_text c.args.tree c.in_ok-checked.checked (program_text_in c.in-Ok.job) c.in_ok-checked.ensures.ok c.in-Ok.ensures.text

pub returns-clause-fault : goal.returns-clause-fault
returns-clause-fault c =
    late_fault c.args.given.now c.args.sides c.args.tree c.args.tables.items c.args.picture c.in_ok-checked.checked c.in_ok-params.params c.convert_bind_fault_to_input_fault.result
    c.in_ok-checked.ensures.ok c.in_ok-params.ensures.ok (
      c.in-Err.fault,
      c.in-Err.ensures.fault,
      subst (λ (p : CheckedProgram). TellsBind (params_in p) (tables_in p) (stages_in p) c.in-Err.fault c.convert_bind_fault_to_input_fault.result)
          c.in-Err.ensures.back.0 c.convert_bind_fault_to_input_fault.ensures,
    )
