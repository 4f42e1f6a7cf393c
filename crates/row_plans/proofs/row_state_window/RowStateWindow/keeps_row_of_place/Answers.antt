use Rattle.std.proofs.Common.{◌+ℤ◌, ◌≤ℤ◌, pos, arith}
use Rattle.std.proofs.lemmas.Int.{ints}
use Rattle.row_plans.proofs.Windows.{place_number, window_keeps}
use Rattle.row_plans.proofs.row_state_window.RowStateWindow.keeps_row_of_place.Goals as goal

pub returns-then-place-self : goal.returns-then-place-self
returns-then-place-self c = λ yes state is.
    let self = c.args.self.now in
    let lo = is.lo in
    let made : (self.lo +ℤ pos c.args.place +ℤ pos 1) ≤ℤ self.next = omega (arith, ints) in
    let here = place_number self.lo c.args.place self.least (omega (arith, ints, made)) in
    let kept : self.first ≤ℤ (self.lo +ℤ pos c.args.place) = omega (arith, ints, here) in
    window_keeps state self is (state.area.rows.lo +ℤ pos c.args.place) (omega (arith, ints, kept)) (omega (arith, ints, made))
