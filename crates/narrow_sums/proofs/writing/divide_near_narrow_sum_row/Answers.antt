use Rattle.std.proofs.Common.{arith, rules, ◌≡◌, ◌+ℤ◌, pos, length, to_z, of_z, w16, FitsSigned, sym, subst, ◌∙◌}
use Rattle.std.proofs.lemmas.Int.{to_z-of_z}
use Rattle.domains.specs.Arithmetic.{floor_div}
use Rattle.narrow_kernels.specs.declared.narrow_centers.NarrowCenter.{NarrowCenter}
use Rattle.narrow_sums.specs.inside.TermOrders.{ordered_value}
use Rattle.narrow_sums.specs.inside.NearTerms.{AreNear, AreGapsFitting, IsNearSum}
use Rattle.narrow_sums.proofs.NearLaws.{from_rest}
use Rattle.narrow_sums.proofs.writing.divide_near_narrow_sum_row.Goals as goal

pub returns : goal.returns
returns g c = λ f gaps rests k l.
    let env = g.S.NarrowSource.samples c.args.source.now in
    let points = c.args.points.now in
    let row = c.args.row.now in
    let bounds = c.args.bounds in
    let own = c.args.own.now in
    let low : FitsSigned w16 bounds.low = search rules in
    let high : FitsSigned w16 bounds.high = search rules in
    let number = c.find_number_of_narrow_sum_row-number in
    let divisor = c.find_divisor_of_narrow_sum_row-divisor in
    let fits : FitsSigned w16 number.result = search rules in
    let terms = c.deref.result.now in
    let center : NarrowCenter = record {
      line = c.borrow_narrow_sum_read_line.result;
      low = to_z w16 (of_z w16 bounds.low);
      high = to_z w16 (of_z w16 bounds.high);
    } in
    let has : IsNearSum env points.row points.col points.len own bounds center terms = record {
      line = record {
        line = c.borrow_narrow_sum_read_line.ensures.values;
        low = to_z-of_z w16 bounds.low low;
        high = to_z-of_z w16 bounds.high high;
      };
      near = subst (AreNear own bounds) (sym c.deref.ensures.value) c.requires.near;
      gaps = subst (AreGapsFitting env points.row points.col points.len) (sym c.deref.ensures.value) gaps;
    } in
    let filled : length c.clear_unwritten_narrow_sum_row.new.out ≡ length c.args.out.now = c.clear_unwritten_narrow_sum_row.auto.out in
    let added : length c.add_near_narrow_sum_terms.new.out ≡ length c.clear_unwritten_narrow_sum_row.new.out = c.add_near_narrow_sum_terms.auto.out in
    let here = points.col +ℤ pos k in
    c.add_and_divide_narrow_tap_sums.ensures k (omega (arith, filled, added, l))
    ∙ (λ i. floor_div
    (from_rest _ (f k) _ _ _ _
    (c.add_near_narrow_sum_terms.ensures own bounds has k (omega (arith, filled, l)) (f k) (c.clear_unwritten_narrow_sum_row.ensures k l (f k) (rests k l)))
    ((λ j. ordered_value env (c.deref.ensures.value j) (c.deref-2.ensures.value j) points.row here) ∙ row.all env points.row here)
    (to_z-of_z w16 number.result fits ∙ number.ensures) i)
    (pos (divisor.ensures.value i)))
