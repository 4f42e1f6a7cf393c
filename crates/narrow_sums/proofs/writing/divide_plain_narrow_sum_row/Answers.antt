use Rattle.std.proofs.Common.{arith, rules, ◌≡◌, ◌+ℤ◌, pos, length, w16, FitsSigned, ◌∙◌}
use Rattle.std.specs.Int.{int_wrap}
use Rattle.std.proofs.lemmas.Int.{to_z-of_z}
use Rattle.domains.specs.Arithmetic.{floor_div}
use Rattle.narrow_sums.proofs.NarrowAddends.{gives_rest}
use Rattle.narrow_sums.specs.inside.TermOrders.{ordered_value}
use Rattle.narrow_sums.specs.inside.RowValues.{divisor_of}
use Rattle.narrow_sums.proofs.writing.divide_plain_narrow_sum_row.Goals as goal

pub returns : goal.returns
returns g c = λ f rests k l.
    let env = g.S.NarrowSource.samples c.args.source.now in
    let points = c.args.points.now in
    let row = c.args.row.now in
    let number = c.find_number_of_narrow_sum_row-number in
    let divisor = c.find_divisor_of_narrow_sum_row-divisor in
    let fits : FitsSigned w16 number.result = search rules in
    let begun = c.from_narrow_row-sum in
    let same : length c.push_narrow_sum_terms.new.out ≡ length c.args.out.now = c.push_narrow_sum_terms.auto.out in
    let terms = c.deref.result.now in
    let order = c.deref-2.result.now in
    let here = points.col +ℤ pos k in
    let sums = c.push_narrow_sum_terms.ensures.sum f
    (gives_rest (length c.args.out.now) f begun.result c.args.out.now c.args.is_written begun.ensures.written begun.ensures.taps
    begun.ensures.differences rests) in
    c.divide_narrow_sum.ensures (λ j. f j +ℤ ordered_value env terms order points.row (points.col +ℤ pos j))
    (λ j m. sums j (omega (arith, same, m))) k (omega (arith, same, l))
    ∙ (λ i. floor_div (int_wrap w16 (f k +ℤ ordered_value env (c.deref.ensures.value i) (c.deref-2.ensures.value i) points.row here
    +ℤ to_z-of_z w16 number.result fits i)) (pos (divisor.ensures.value i)))
    ∙ (λ i. floor_div (int_wrap w16 (f k +ℤ row.all env points.row here i +ℤ number.ensures i)) (pos (divisor_of row.quotient)))
