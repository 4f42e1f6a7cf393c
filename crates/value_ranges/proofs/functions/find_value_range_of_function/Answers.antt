use Rattle.std.proofs.Common.{subst, List}
use Rattle.std.specs.Prelude.{All, Option}
use Rattle.std.specs.Option.{option_map}
use Rattle.std.proofs.lemmas.List.Elements.{All-map}
use Rattle.job.specs.declared.formula.Formula.{Formula as KeptFormula}
use Rattle.job.specs.declared.stage.JobCase.{JobCase as KeptCase}
use Rattle.job.specs.Pipeline.{JobCase}
use Rattle.job.specs.Views.{formula_view, case_view}
use Rattle.value_ranges.specs.inside.Found.{IsFoundCase, IsFoundElsewhere}
use Rattle.value_ranges.proofs.Composing.{elsewhere_wider}
use Rattle.value_ranges.proofs.functions.find_value_range_of_function.Goals as goal

pub returns : goal.returns
returns c = record {
  each = All-map (λ (p : JobCase). IsFoundCase c.args.ranges.now p c.widen_value_range_by_cases.result) case_view c.args.function.now.cases.items
      (subst (λ (ps : List KeptCase). All (λ (p : KeptCase). IsFoundCase c.args.ranges.now (case_view p) c.widen_value_range_by_cases.result) ps)
      c.cases.ensures c.widen_value_range_by_cases.ensures.cases);
  other = elsewhere_wider c.args.ranges.now (option_map formula_view c.args.function.now.otherwise) c.find_value_range_of_otherwise-found.result
      c.widen_value_range_by_cases.result c.widen_value_range_by_cases.ensures.wider
      (subst (λ (o : Option KeptFormula). IsFoundElsewhere c.args.ranges.now (option_map formula_view o) c.find_value_range_of_otherwise-found.result)
      c.otherwise.ensures c.find_value_range_of_otherwise-found.ensures);
}
