use Rattle.std.proofs.Common.{length, refl}
use Rattle.std.proofs.lemmas.Option.{slice_get_read}
use Rattle.row_plans.proofs.row_plan_check.is_planned_row_kept_for_output.Goals as goal

pub returns-in-Some : goal.returns-in-Some
returns-in-Some c = λ kept states are.
    let window = c.in-Some.window.now in
    let own = slice_get_read c.args.windows.now (length c.args.windows.now) c.args.output window refl c.in-Some.ensures.lookup.3.0 c.in-Some.ensures.lookup.1 in
    let has = are c.args.output window own in
    (has.0, has.1, c.keeps_row_of_place.ensures kept has.0 has.2)
