use Rattle.std.proofs.Common.{List, ℤ, [], ◌∷◌, ap, sym, subst, ◌∙◌}
use Rattle.job.specs.Formula.{stencil}
use Rattle.joined_formulas.specs.Joins.{Joins}
use Rattle.joined_formulas.proofs.KnownColumns.{split_stencil}
use Rattle.joined_formulas.proofs.columns.join_stencil_by_columns.Goals as goal

pub returns : goal.returns
returns c =
    subst (λ (k : List (List ℤ)). Joins c.args.known.now (stencil c.args.stage c.args.divisor c.args.kernel.now)
    (stencil c.in-Some.column c.args.divisor k)) (sym (c.in_ok-along.ensures ∙ ap (λ (row : List ℤ). row ∷ []) c.borrow_factor_of_each_column.ensures))
    (split_stencil c.args.known.now c.args.stage c.in-Some.column c.args.divisor c.args.kernel.now c.in-Some.product.down.items
    c.in-Some.product.along.items (c.in-Some.ensures.column) (c.in-Some.ensures.product))
