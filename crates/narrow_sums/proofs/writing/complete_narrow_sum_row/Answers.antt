use Rattle.std.proofs.Common.{arith, ℤ, ◌≡◌, ◌<◌, ◌∙◌, ◌+ℤ◌, pos, length, w16, ap, sym}
use Rattle.std.specs.Prelude.{Option}
use Rattle.std.specs.Int.{int_wrap}
use Rattle.std.proofs.lemmas.Int.{int_wrap_fits}
use Rattle.narrow_sums.specs.declared.terms.NarrowSumRead.{NarrowSumRead}
use Rattle.narrow_sums.specs.inside.RowValues.{divided_value, centered_value}
use Rattle.narrow_sums.proofs.RowLaws.{divided_fits}
use Rattle.narrow_sums.proofs.writing.complete_narrow_sum_row.Goals as goal

pub returns-in-Some : goal.returns-in-Some
returns-in-Some g c = λ f gaps rests k l.
    let env = g.S.NarrowSource.samples c.args.source.now in
    let points = c.args.points.now in
    let row = c.args.row.now in
    let here = points.col +ℤ pos k in
    let divided = divided_value env row (f k) points.row here in
    let same : length c.divide_narrow_sum_row.new.out ≡ length c.args.out.now = c.divide_narrow_sum_row.auto.out in
    let fits = c.requires.fits in
    let within : k < points.len = omega (arith, fits, l) in
    c.add_line_of_narrow_sum_center.ensures k (omega (arith, same, l)) divided
    (c.divide_narrow_sum_row.ensures f gaps rests k l ∙ sym (int_wrap_fits w16 divided (divided_fits env points.row here row (f k))))
    ∙ ap (λ (z : ℤ). int_wrap w16 (divided +ℤ z)) (c.borrow_narrow_sum_read_line-line.ensures.values k within)
    ∙ ap (λ (o : Option NarrowSumRead). centered_value env o divided points.row here) (sym c.in-Some.is)
