use Rattle.std.proofs.Common.{refl}
use Rattle.job.specs.Formula.{select}
use Rattle.job.specs.Views.{formula_view}
use Rattle.normal_formulas.proofs.Rewriting.{same}
use Rattle.normal_formulas.proofs.Choices.{comparison_turned}
use Rattle.normal_formulas.proofs.relations.choose_normal_formula.Goals as goal

pub returns-then-is_normal_relation_mirrored : goal.returns-then-is_normal_relation_mirrored
returns-then-is_normal_relation_mirrored c =
    comparison_turned c.args.relation c.mirror_normal_relation-mirrored.result (formula_view c.args.left.value) (formula_view c.args.right.value)
    (formula_view c.args.then.value) (formula_view c.args.otherwise.value) c.mirror_normal_relation-mirrored.ensures

pub returns-else-is_normal_relation_mirrored : goal.returns-else-is_normal_relation_mirrored
returns-else-is_normal_relation_mirrored c =
    let chosen =
    select (formula_view c.args.left.value) c.args.relation (formula_view c.args.right.value) (formula_view c.args.then.value)
    (formula_view c.args.otherwise.value) in
    same chosen chosen refl
