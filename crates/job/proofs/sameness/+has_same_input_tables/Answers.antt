use Rattle.job.proofs.SameInputs.{first_tables}
use Rattle.job.proofs.sameness.+has_same_input_tables.Goals as goal

pub returns-then-is_same_input_table-clause-told : goal.returns-then-is_same_input_table-clause-told
returns-then-is_same_input_table-clause-told t c = λ first second h.
    c.has_same_input_tables.ensures.told first second
    (first_tables c.args.a.now c.args.b.now c.in-Some-Some.rest.now c.in-Some-Some.others.now c.in-Some-Some.first.now
    c.in-Some-Some.other.now first second c.in-Some-Some.ensures.cases.0 c.in-Some-Some.ensures'.cases.0 c.requires.first
    c.requires.second h).1

pub returns-else-is_same_input_table-clause-told : goal.returns-else-is_same_input_table-clause-told
returns-else-is_same_input_table-clause-told t c = λ first second h.
    c.is_same_input_table.ensures.1
    (first_tables c.args.a.now c.args.b.now c.in-Some-Some.rest.now c.in-Some-Some.others.now c.in-Some-Some.first.now
    c.in-Some-Some.other.now first second c.in-Some-Some.ensures.cases.0 c.in-Some-Some.ensures'.cases.0 c.requires.first
    c.requires.second h).0
