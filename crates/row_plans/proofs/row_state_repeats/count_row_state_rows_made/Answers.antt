use Rattle.std.proofs.Common.{arith, length, refl}
use Rattle.std.proofs.lemmas.Int.{ints}
use Rattle.std.proofs.lemmas.Option.{slice_get_read}
use Rattle.row_plans.proofs.Moved.{windows_apart}
use Rattle.row_plans.proofs.row_state_repeats.count_row_state_rows_made.Goals as goal

pub returns-in-Some-Some : goal.returns-in-Some-Some
returns-in-Some-Some c = λ states d moved.
    let begun = c.args.begun.now in
    let ended = c.args.ended.now in
    let first = c.in-Some-Some.first.now in
    let last = c.in-Some-Some.last.now in
    let first_there = slice_get_read begun (length begun) c.args.stage first refl c.in-Some-Some.ensures.lookup.3.0 c.in-Some-Some.ensures.lookup.1 in
    let last_there = slice_get_read ended (length ended) c.args.stage last refl c.in-Some-Some.ensures'.lookup.3.0 c.in-Some-Some.ensures'.lookup.1 in
    let apart = windows_apart d states begun ended c.args.stage first last moved first_there last_there in
    omega (arith, ints, apart)
