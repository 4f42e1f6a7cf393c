use Rattle.std.proofs.Common.{arith}
use Rattle.std.proofs.lemmas.Int.{ints}
use Rattle.row_plans.proofs.row_state_window.RowStateWindow.make_next_row.Goals as goal

pub invariant_of-result : goal.invariant_of-result
invariant_of-result c = record {
  least = omega (arith, ints);
  begun = omega (arith, ints);
  order = omega (arith, ints);
  most = omega (arith, ints);
  most_made = omega (arith, ints);
  least_kept = omega (arith, ints);
  most_kept = omega (arith, ints);
}

pub returns : goal.returns
returns c = λ state is.
    let lo = is.lo in let next = is.next in let kept = is.kept in let begun = is.begun in let low = is.low in let oldest = is.oldest in
    let high = is.high in let last = is.last in record {
      lo = omega (arith, ints);
      next = omega (arith, ints);
      kept = omega (arith, ints);
      begun = omega (arith, ints);
      low = omega (arith, ints);
      oldest = omega (arith, ints);
      high = omega (arith, ints);
      last = omega (arith, ints);
      some = λ more. is.some (omega (arith, ints));
    }
