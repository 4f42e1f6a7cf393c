use Rattle.std.proofs.Common.{rules, List, ℤ, pos, ◌≡◌, sym, subst}
use Rattle.domains.proofs.Places.{ok_then}
use Rattle.domains.specs.Index.{Scale, IsIndex, index_at}
use Rattle.operators.specs.declared.operator.LiteralOp.TheVariants.{Div}
use Rattle.job.specs.Formula.{literal, read, stencil}
use Rattle.job.specs.Views.{formula_view}
use Rattle.joined_formulas.specs.Joins.{Joins}
use Rattle.joined_formulas.proofs.Composed.{own_index}
use Rattle.joined_formulas.proofs.Parts.{by_rewriting, steps}
use Rattle.joined_formulas.proofs.Points.{own_kernel, point_read}
use Rattle.joined_formulas.proofs.joined.join_stencil.Goals as goal

pub returns-in-Some : goal.returns-in-Some
returns-in-Some c =
    let own : Scale = c.in-Some.own in
    let mul : own.mul ≡ pos 1 = search rules in
    let add : own.add ≡ pos 0 = search rules in
    let div : own.div ≡ pos 1 = search rules in
    let index : IsIndex own = search rules in
    let kernel : c.args.kernel.now ≡ own_kernel = search rules in
    let at : (v : ℤ) → index_at own v ≡ v = own_index own mul add div in
    ok_then c.join_own_stencil.result c.join_own_stencil.ensures (λ made x.
    subst (λ (k : List (List ℤ)). Joins c.args.known.now (stencil c.args.stage c.args.divisor k) (formula_view made)) (sym kernel)
    (steps c.args.known.now (stencil c.args.stage c.args.divisor own_kernel) (literal Div (read c.args.stage own own) c.args.divisor)
    (formula_view made)
    (by_rewriting c.args.known.now (stencil c.args.stage c.args.divisor own_kernel) (literal Div (read c.args.stage own own) c.args.divisor)
    (point_read c.args.stage c.args.divisor own at index)) x))
