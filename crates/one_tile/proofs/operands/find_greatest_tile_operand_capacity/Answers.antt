use Rattle.std.proofs.Common.{rules, arith}
use Rattle.job.specs.Kept.{pipeline_in}
use Rattle.one_tile.proofs.StepsHaveRoom.{all_steps_least, no_least_of_steps, no_steps_least, one_step_more}
use Rattle.one_tile.proofs.operands.find_greatest_tile_operand_capacity.Goals as goal

pub loop-step-init : goal.loop-step-init
loop-step-init c = no_steps_least (pipeline_in c.args.job.now) c.args.steps.now

pub loop-step-preserved : goal.loop-step-preserved
loop-step-preserved c =
    one_step_more (pipeline_in c.args.job.now) c.args.steps.now c.loop-step.step-index c.step-item.result c.loop-step.room
    c.in_ok-compute_operand_capacity_of_tile_step.field-0 c.max-room.result (search rules) c.step-item.is (omega (arith, c.max-room.ensures))
    c.loop-step.invariant (search rules)

pub returns : goal.returns
returns c =
    all_steps_least (pipeline_in c.args.job.now) c.args.steps.now c.loop-step.step-index c.loop-step.room (search rules) c.loop-step.invariant

pub returns-in_err-compute_operand_capacity_of_tile_step : goal.returns-in_err-compute_operand_capacity_of_tile_step
returns-in_err-compute_operand_capacity_of_tile_step c =
    no_least_of_steps (pipeline_in c.args.job.now) c.args.steps.now c.loop-step.step-index c.step-item.result c.from_residual.result
    (search rules) (search rules) c.step-item.is (search rules)
