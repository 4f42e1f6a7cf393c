use Rattle.std.proofs.Common.{rules, map}
use Rattle.std.specs.Option.{option_map}
use Rattle.job.specs.Kept.{pipeline_in}
use Rattle.job.specs.Views.{case_view, formula_view}
use Rattle.overlap_tiles.specs.Views.{step_view}
use Rattle.one_tile.proofs.StepsHaveRoom.{function_least, none_least}
use Rattle.one_tile.proofs.operands.compute_operand_capacity_of_tile_step.Goals as goal

pub returns-in-Some : goal.returns-in-Some
returns-in-Some c =
    function_least (pipeline_in c.args.job.now) (step_view c.args.step.now) c.len.result (map case_view c.in-Some.function.now.cases.items)
    (option_map formula_view c.in-Some.function.now.otherwise) c.compute_operand_capacity_of_function.result (search rules) c.in-Some.ensures.some
    c.compute_operand_capacity_of_function.ensures

pub returns-in-None : goal.returns-in-None
returns-in-None c = none_least (pipeline_in c.args.job.now) (step_view c.args.step.now) c.in-None.ensures.none
