use Rattle.fact_commands.proofs.Counting.{too_many}
use Rattle.fact_commands.proofs.merges.join_and_count_merge_input.Goals as goal

pub returns-in-None-clause-fault : goal.returns-in-None-clause-fault
returns-in-None-clause-fault c =
    let contents = c.in_ok-contents.contents in
    too_many c.args.input.items contents.retired.items contents.facts.items c.in_ok-contents.ensures.join
    (rw c.deref.ensures.value at (rw c.deref-2.ensures.value at c.in-None.ensures))
