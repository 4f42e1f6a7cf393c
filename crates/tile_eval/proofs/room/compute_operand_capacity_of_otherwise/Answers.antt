use Rattle.std.proofs.Common.{sym, subst}
use Rattle.std.specs.Prelude.{Option, Some}
use Rattle.std.specs.Option.{option_map, ForSome}
use Rattle.job.specs.declared.formula.Formula.{Formula as KeptFormula}
use Rattle.job.specs.Views.{formula_view}
use Rattle.tile_eval.specs.Counted.{IsLeast}
use Rattle.tile_eval.specs.Reading.{HasRoom}
use Rattle.tile_eval.proofs.Rooms.{other_from, formula_counted, counted_least}
use Rattle.tile_eval.proofs.room.compute_operand_capacity_of_otherwise.Goals as goal

pub returns-in-Some : goal.returns-in-Some
returns-in-Some c =
    subst (λ (o : Option KeptFormula). IsLeast (λ room. ForSome (option_map formula_view o) (λ f. HasRoom f c.args.n room))
    c.compute_operand_capacity_of_formula.result) (sym c.in-Some.is)
    (counted_least _ _ _ (other_from (Some (formula_view c.in-Some.formula)) c.args.n)
    (formula_counted (formula_view c.in-Some.formula) c.args.n c.compute_operand_capacity_of_formula.result c.compute_operand_capacity_of_formula.ensures))
