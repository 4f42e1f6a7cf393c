use Rattle.std.proofs.Common.{arith, ℕ, ◌<◌, ◌∙◌, ◌+ℤ◌, pos, length, w16, sym, refl}
use Rattle.std.proofs.lemmas.Int.{int_wrap_fits}
use Rattle.job.specs.Values.{formula_value}
use Rattle.narrow_sums.specs.SumRows.{joined_sum_formula}
use Rattle.narrow_sums.proofs.NarrowFormulas.{narrow_at, narrow_fits}
use Rattle.narrow_sums.proofs.SumRows.{start_narrow_within}
use Rattle.narrow_sums.proofs.RowLaws.{joined_gaps, joined_is}
use Rattle.narrow_sums.proofs.writing.join_narrow_sum_row.Goals as goal

pub returns : goal.returns
returns g c = λ f narrow values k l.
    let env = g.S.NarrowSource.samples c.args.source.now in
    let points = c.args.points.now in
    let row = c.args.row.now in
    let fits = c.requires.fits in
    let within : (j : ℕ) → j < length c.args.out.now → j < points.len = λ j m. omega (arith, fits, m) in
    let start = start_narrow_within env f row points.row points.col points.len narrow in
    c.complete_narrow_sum_row.ensures (λ j. formula_value env f points.row (points.col +ℤ pos j))
    (joined_gaps env points.row points.col points.len f row narrow)
    (λ j m. values j m ∙ sym (int_wrap_fits w16 (formula_value env f points.row (points.col +ℤ pos j))
    (narrow_fits env points.row points.col points.len f start j (within j m)))) k l
    ∙ joined_is env points.row (points.col +ℤ pos k) row f _ refl
    (narrow_at env points.row points.col points.len (joined_sum_formula f row) narrow k (within k l))
