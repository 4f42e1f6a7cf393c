use Rattle.std.proofs.Common.{◌≡◌, arith, w32, to_z, of_z}
use Rattle.std.proofs.lemmas.Int.{ints}
use Rattle.domains.proofs.Lengths.{gap_is}
use Rattle.row_plans.proofs.Windows.{gap_taken, window_moved}
use Rattle.std.specs.Prelude.{◌+ℤ◌, ◌-ℤ◌, ◌≤ℤ◌, pos}
use Rattle.row_plans.proofs.row_state_window.RowStateWindow.make_rows.Goals as goal

pub invariant_of-result : goal.invariant_of-result
invariant_of-result c =
    let self = c.args.self.now in
    let far : to_z w32 c.args.rows ≡ pos c.args.rows = omega (arith, ints) in
    let now : to_z w32 (of_z w32 (to_z w32 (of_z w32 self.next) +ℤ to_z w32 c.args.rows)) ≡ self.next +ℤ pos c.args.rows = omega (arith, ints, far) in
    let most : (self.next +ℤ pos c.args.rows) ≤ℤ (self.last +ℤ pos 1) = omega (arith, ints, now) in
    record {
      least = omega (arith, ints);
      begun = omega (arith, ints);
      order = omega (arith, ints, now);
      most = omega (arith, ints, now, most);
      most_made = omega (arith, ints);
      least_kept = omega (arith, ints);
      most_kept = omega (arith, ints);
    }

pub returns-clause-windows : goal.returns-clause-windows
returns-clause-windows c =
    let self = c.args.self.now in
    let lo : to_z w32 (of_z w32 self.lo) ≡ self.lo = omega (arith, ints) in
    let last : to_z w32 (of_z w32 self.last) ≡ self.last = omega (arith, ints) in
    let start : to_z w32 (of_z w32 self.first) ≡ self.first = omega (arith, ints) in
    let end : to_z w32 (of_z w32 c.max-first.result) ≡ c.max-first.result = omega (arith, ints) in
    let under = rw start at c.max-first.ensures.self_bound in
    let above : self.first ≤ℤ to_z w32 (of_z w32 c.max-first.result) = rw end under in
    let far : to_z w32 c.args.rows ≡ pos c.args.rows = omega (arith, ints) in
    let now : to_z w32 (of_z w32 (to_z w32 (of_z w32 self.next) +ℤ to_z w32 c.args.rows)) ≡ self.next +ℤ pos c.args.rows = omega (arith, ints, far) in
    let most : (self.next +ℤ pos c.args.rows) ≤ℤ (self.last +ℤ pos 1) = omega (arith, ints, now) in
    let rest : to_z w32 (of_z w32 self.kept) ≡ self.kept = omega (arith, ints) in
    let oldest_now : to_z w32 (of_z w32 (self.next +ℤ pos c.args.rows -ℤ self.kept)) ≡ self.next +ℤ pos c.args.rows -ℤ self.kept = omega (arith, ints, now) in
    let top = rw (now, rest, oldest_now) at c.max-first.ensures.other_bound in
    let late : (self.next +ℤ pos c.args.rows) ≤ℤ (to_z w32 (of_z w32 c.max-first.result) +ℤ self.kept) =
    gap_taken (self.next +ℤ pos c.args.rows) self.kept (to_z w32 (of_z w32 c.max-first.result)) (rw end top) in
    λ state is. window_moved c.args.rows state self _ is lo now last rest above (rw (← now) at late) most

pub returns-clause-left : goal.returns-clause-left
returns-clause-left c = λ state is some.
    let self = c.args.self.now in
    let far : to_z w32 c.args.rows ≡ pos c.args.rows = omega (arith, ints) in
    let now : to_z w32 (of_z w32 (to_z w32 (of_z w32 self.next) +ℤ to_z w32 c.args.rows)) ≡ self.next +ℤ pos c.args.rows = omega (arith, ints, far) in
    let most : (self.next +ℤ pos c.args.rows) ≤ℤ (self.last +ℤ pos 1) = omega (arith, ints, now) in
    let lo = is.lo in let next = is.next in let last = is.last in
    let gap = gap_is state.area.rows.lo (state.area.rows.hi +ℤ pos 1) (omega (arith, ints)) in omega (arith, ints, now, most, gap)
