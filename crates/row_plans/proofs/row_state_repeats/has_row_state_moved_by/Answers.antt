use Rattle.std.proofs.Common.{◌≡◌, true, nat_eq, pos, arith, w32, to_z, of_z}
use Rattle.std.proofs.lemmas.Bool.{eqb-true}
use Rattle.std.proofs.lemmas.Int.{ints}
use Rattle.row_plans.proofs.row_state_repeats.has_row_state_moved_by.Goals as goal

pub returns-then-made-ge0 : goal.returns-then-made-ge0
returns-then-made-ge0 c = λ yes states d moved.
    let is = c.in-Some.ensures states d moved in
    let made : to_z w32 (of_z w32 c.in-Some.made) ≡ pos (d c.args.stage) = omega (arith, ints, is) in
    let same : nat_eq (d c.args.stage) c.args.height ≡ true = rw made at yes in
    eqb-true (d c.args.stage) c.args.height same
