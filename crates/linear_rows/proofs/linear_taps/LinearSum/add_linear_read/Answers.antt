use Rattle.std.proofs.Common.{rules, List, ◌+ℤ◌, ◌*ℤ◌, ℤ, ◌∙◌, ap, FitsSigned, w16}
use Rattle.std.proofs.lemmas.Int.{to_z-of_z}
use Rattle.domains.specs.Arithmetic.{wrapped}
use Rattle.domains.specs.Index.{index_at}
use Rattle.linear_rows.specs.declared.linear_taps.LinearTap.{LinearTap}
use Rattle.linear_rows.specs.inside.LinearSums.{taps_value}
use Rattle.linear_rows.proofs.LinearValues.{read_more}
use Rattle.linear_rows.proofs.linear_taps.LinearSum.add_linear_read.Goals as goal

pub returns-in-Ok-clause-values : goal.returns-in-Ok-clause-values
returns-in-Ok-clause-values c = λ env r k.
    let own = c.args.self.now in
    let f = c.args.factor in
    let factor : FitsSigned w16 c.args.factor = search rules in
    let v : ℤ = env c.args.stage (index_at c.args.row.now r) (index_at c.args.col.now k) in
    ap (λ (ts : List LinearTap). wrapped (own.number +ℤ taps_value env ts r k)) c.in-Ok.ensures.items
    ∙ read_more env r k own.number f v own.taps.items _ (ap (λ (z : ℤ). z *ℤ v) (to_z-of_z w16 f factor))
