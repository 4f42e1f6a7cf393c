use Rattle.job.specs.Kept.{pipeline_in}
use Rattle.one_tile.proofs.StepsHaveRoom.{FirstLeast}
use Rattle.one_tile.proofs.operands.find_greatest_tile_operand_capacity.Given as goal

abbrev pub invariant-loop-step : goal.invariant-loop-step
invariant-loop-step l = FirstLeast (pipeline_in l.job) l.steps l.step-index l.room
