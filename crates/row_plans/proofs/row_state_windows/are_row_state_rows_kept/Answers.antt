use Rattle.std.proofs.Common.{◌≡◌, arith, length, refl, w32, to_z, of_z}
use Rattle.std.proofs.lemmas.Int.{ints}
use Rattle.std.proofs.lemmas.Option.{slice_get_read}
use Rattle.row_plans.proofs.row_state_windows.are_row_state_rows_kept.Goals as goal

pub returns-in-Some : goal.returns-in-Some
returns-in-Some c = λ yes states are row above below.
    let own = slice_get_read c.args.windows.now (length c.args.windows.now) c.args.stage c.in-Some.window.now refl c.in-Some.ensures.lookup.3.0 c.in-Some.ensures.lookup.1 in
    let first : to_z w32 (of_z w32 c.args.first) ≡ c.args.first = omega (arith, ints) in
    let last : to_z w32 (of_z w32 c.args.last) ≡ c.args.last = omega (arith, ints) in
    let has = are c.args.stage c.in-Some.window.now own in
    (has.0, has.1, c.keeps_rows.ensures yes has.0 has.2 row (rw first above) (rw last below))
