use Rattle.std.proofs.Common.{◌≡◌, ◌+ℤ◌, ◌≤ℤ◌, pos, w32, to_z, of_z, arith}
use Rattle.std.proofs.lemmas.Int.{ints}
use Rattle.domains.proofs.Lengths.{len_is}
use Rattle.row_plans.proofs.row_state_window.RowStateWindow.from_row_state.Goals as goal
use Rattle.row_plans.proofs.row_state_window.RowStateWindow.from_row_state.Goals.{then-kept-gt0, else-kept-gt0}

pub invariant_of-result : goal.invariant_of-result
invariant_of-result c =
    let whole = len_is c.args.state.now.area.rows c.len.ensures.within in
    let made : to_z w32 c.if-kept-gt0.result-bits ≤ℤ pos 1048576 =
    elim c.if-kept-gt0.branch [ then-kept-gt0 w ↦ omega (arith, ints) | else-kept-gt0 w ↦ omega (arith, ints) ] in
    let low : (c.args.state.now.area.rows.lo +ℤ pos c.args.state.now.first) ≤ℤ to_z w32 (of_z w32 c.max.result) = omega (arith, ints) in
    let lo : to_z w32 (of_z w32 c.lo-lo.result) ≡ c.args.state.now.area.rows.lo = omega (arith, ints) in
    let next : to_z w32 (of_z w32 (to_z w32 (of_z w32 c.lo-lo.result) +ℤ to_z w32 c.args.state.now.next))
    ≡ c.args.state.now.area.rows.lo +ℤ pos c.args.state.now.next = omega (arith, ints) in
    record {
      least = omega (arith, ints);
      begun = omega (arith, ints, low);
      order = omega (arith, ints, lo, next);
      most = omega (arith, ints, next);
      most_made = made;
      least_kept = omega (arith, ints);
      most_kept = omega (arith, ints);
    }

pub returns : goal.returns
returns c =
    let whole = len_is c.args.state.now.area.rows c.len.ensures.within in
    record {
      lo = omega (arith, ints);
      next = omega (arith, ints);
      kept = omega (arith, ints);
      begun = omega (arith, ints);
      low = omega (arith, ints);
      oldest = omega (arith, ints);
      high = omega (arith, ints);
      last = elim c.if-kept-gt0.branch [ then-kept-gt0 w ↦ omega (arith, ints) | else-kept-gt0 w ↦ omega (arith, ints) ];
      some = λ more. elim c.if-kept-gt0.branch [ then-kept-gt0 w ↦ omega (arith, ints) | else-kept-gt0 w ↦ omega (arith, ints) ];
    }
