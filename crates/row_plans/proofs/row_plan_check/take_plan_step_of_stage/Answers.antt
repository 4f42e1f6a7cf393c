use Rattle.std.proofs.Common.{◌≡◌, arith, length, refl, w32, to_z, of_z}
use Rattle.std.proofs.lemmas.Int.{ints}
use Rattle.std.proofs.lemmas.Option.{slice_get_read}
use Rattle.row_plans.proofs.Checking.{window_made}
use Rattle.row_plans.proofs.row_plan_check.take_plan_step_of_stage.Goals as goal

pub returns : goal.returns
returns c = λ _ states are.
    let rows = c.args.rows.now in
    let windows = c.args.windows.now in
    let read = c.in-Some-Some.read.now in
    let window = c.in-Some-Some.window.now in
    let read_there = slice_get_read rows (length rows) c.args.stage read refl c.in-Some-Some.ensures.lookup.3.0 c.in-Some-Some.ensures.lookup.1 in
    let window_there = slice_get_read windows (length windows) c.args.stage window refl c.in-Some-Some.ensures'.lookup.3.0 c.in-Some-Some.ensures'.lookup.1 in
    let same : to_z w32 (of_z w32 c.next.result) ≡ c.next.result = omega (arith, ints) in
    let kept = c.are_rows_read_kept.ensures c.if-not-are_rows_read_kept.false states are in
    window_made rows states windows c.args.stage read window c.make_next_row.result are
    read_there (c.has_planned_rows.ensures c.if-not-has_planned_rows.false) window_there (c.has_next_row.ensures c.if-not-has_next_row.false) (rw c.next.ensures at (rw same at kept)) c.make_next_row.ensures
