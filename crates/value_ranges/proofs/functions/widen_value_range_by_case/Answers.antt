use Rattle.std.proofs.Common.{subst}
use Rattle.job.specs.declared.formula.Formula.{Formula as KeptFormula}
use Rattle.job.specs.Views.{formula_view}
use Rattle.value_ranges.specs.inside.Found.{IsFound}
use Rattle.value_ranges.proofs.Composing.{found_wider}
use Rattle.value_ranges.proofs.functions.widen_value_range_by_case.Goals as goal

pub returns-clause-case : goal.returns-clause-case
returns-clause-case c = record {
  formula = found_wider c.args.ranges.now (formula_view c.args.case.now.formula) c.find_value_range_of_formula-more.result
      c.join_found_value_ranges.result
      (subst (λ (f : KeptFormula). IsFound c.args.ranges.now (formula_view f) c.find_value_range_of_formula-more.result) c.formula.ensures
      c.find_value_range_of_formula-more.ensures)
      c.join_found_value_ranges.ensures.second;
}
