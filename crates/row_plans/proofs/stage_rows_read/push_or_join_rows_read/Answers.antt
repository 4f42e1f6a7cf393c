use Rattle.row_plans.proofs.Growing.{joined_is_wider, joined_takes, pushed_takes}
use Rattle.row_plans.proofs.stage_rows_read.push_or_join_rows_read.Goals as goal

pub returns-in-Some-clause-wider : goal.returns-in-Some-clause-wider
returns-in-Some-clause-wider c =
    joined_is_wider c.args.found.now.items c.args.read c.in-Some.place c.in-Some.joined (rw c.deref.ensures.value at c.in-Some.ensures)

pub returns-in-Some-clause-taken : goal.returns-in-Some-clause-taken
returns-in-Some-clause-taken c =
    joined_takes c.args.found.now.items c.args.read c.in-Some.place c.in-Some.joined (rw c.deref.ensures.value at c.in-Some.ensures)

pub returns-in_ok-push-in-None-clause-taken : goal.returns-in_ok-push-in-None-clause-taken
returns-in_ok-push-in-None-clause-taken c = pushed_takes c.args.found.now.items _ c.args.read c.in_ok-push-in-None.ensures.items
