use Rattle.std.proofs.Common.{◌≡◌, arith, ◌+◌, ◌<◌, ◌≤◌, pos, subst, w32, to_z, of_z}
use Rattle.std.proofs.lemmas.Int.{ints}
use Rattle.std.proofs.lemmas.Option.{IfSome_then}
use Rattle.domains.specs.Span.{len_of}
use Rattle.row_plans.specs.Moved.{rows_more}
use Rattle.row_plans.specs.Windows.{IsWindowOf}
use Rattle.row_plans.proofs.row_state_repeats.move_row_state_window.Goals as goal

pub returns-clause-windows : goal.returns-clause-windows
returns-clause-windows c = IfSome_then c.make_rows.result c.make_rows.ensures.windows (λ w h. λ states d state moved is.
    let made = c.in_ok-made.ensures states d moved in
    let far : to_z w32 (of_z w32 c.in_ok-made.made) ≡ pos (d c.args.stage) = omega (arith, ints, made) in
    subst (λ n. IsWindowOf (rows_more n state) w) (c.in_ok-count_row_state_rows_to_make.ensures (d c.args.stage) far) (h state is))

pub returns-clause-left : goal.returns-clause-left
returns-clause-left c = IfSome_then c.make_rows.result c.make_rows.ensures.left (λ w h. λ states d state moved is some.
    let made = c.in_ok-made.ensures states d moved in
    let far : to_z w32 (of_z w32 c.in_ok-made.made) ≡ pos (d c.args.stage) = omega (arith, ints, made) in
    let rows = c.in_ok-count_row_state_rows_to_make.ensures (d c.args.stage) far in
    subst (λ n. 0 < n → state.next + n ≤ len_of state.area.rows) rows (h state is) some)
