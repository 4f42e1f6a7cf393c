use Rattle.std.proofs.Common.{List, subst}
use Rattle.std.specs.Prelude.{Option}
use Rattle.std.specs.Option.{option_map, ForSome}
use Rattle.job.specs.declared.formula.Formula.{Formula as KeptFormula}
use Rattle.job.specs.declared.stage.JobCase.{JobCase as KeptCase}
use Rattle.job.specs.Views.{formula_view}
use Rattle.tile_eval.specs.Counted.{IsLeast}
use Rattle.tile_eval.specs.Reading.{HasRoom}
use Rattle.tile_eval.proofs.Rooms.{EachHasRoom, cases_from, other_from, function_from, least_counted, counted_least}
use Rattle.tile_eval.proofs.room.compute_operand_capacity_of_function.Goals as goal

pub returns : goal.returns
returns c =
    let n = c.args.n in
    let ps = c.args.function.now.cases.items in
    let o = option_map formula_view c.args.function.now.otherwise in
    let cases : IsLeast (EachHasRoom ps n) c.compute_operand_capacity_of_cases.result =
    subst (λ (ps : List KeptCase). IsLeast (EachHasRoom ps n) c.compute_operand_capacity_of_cases.result) c.cases.ensures c.compute_operand_capacity_of_cases.ensures in
    let other : IsLeast (λ m. ForSome o (λ f. HasRoom f n m)) c.compute_operand_capacity_of_otherwise.result =
    subst (λ (o : Option KeptFormula). IsLeast (λ m. ForSome (option_map formula_view o) (λ f. HasRoom f n m)) c.compute_operand_capacity_of_otherwise.result)
    c.otherwise.ensures c.compute_operand_capacity_of_otherwise.ensures in
    counted_least _ _ _ (function_from ps o n)
    (c.find_greater_capacity.ensures _ _ (c.add_capacity_of_rows-cases.ensures _ (least_counted _ _ _ (cases_from ps n) cases))
    (least_counted _ _ _ (other_from o n) other))
