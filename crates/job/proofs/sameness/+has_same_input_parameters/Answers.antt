use Rattle.std.proofs.Common.{rules}
use Rattle.job.proofs.SameInputs.{first_fits, others_fit, firsts}
use Rattle.job.proofs.sameness.+has_same_input_parameters.Goals as goal

pub is_same_input_parameter-requires-clause-first : goal.is_same_input_parameter-requires-clause-first
is_same_input_parameter-requires-clause-first t c =
    first_fits c.args.a.now c.in-Some-Some.rest.now c.in-Some-Some.first.now c.in-Some-Some.ensures.cases.0 c.requires.first

pub is_same_input_parameter-requires-clause-second : goal.is_same_input_parameter-requires-clause-second
is_same_input_parameter-requires-clause-second t c =
    first_fits c.args.b.now c.in-Some-Some.others.now c.in-Some-Some.other.now c.in-Some-Some.ensures'.cases.0 c.requires.second

pub has_same_input_parameters-requires : goal.has_same_input_parameters-requires
has_same_input_parameters-requires t c = (
  search rules,
  (
    others_fit c.args.a.now c.in-Some-Some.rest.now c.in-Some-Some.first.now c.in-Some-Some.ensures.cases.0 c.requires.first,
    others_fit c.args.b.now c.in-Some-Some.others.now c.in-Some-Some.other.now c.in-Some-Some.ensures'.cases.0 c.requires.second,
  ),
)

pub returns-then-is_same_input_parameter-clause-told : goal.returns-then-is_same_input_parameter-clause-told
returns-then-is_same_input_parameter-clause-told t c = λ m n first second ends other h.
    let e = c.in-Some-Some.ensures.cases.0 in
    let f = c.in-Some-Some.ensures'.cases.0 in
    let one = first_fits c.args.a.now c.in-Some-Some.rest.now c.in-Some-Some.first.now e c.requires.first in
    let two = first_fits c.args.b.now c.in-Some-Some.others.now c.in-Some-Some.other.now f c.requires.second in
    c.has_same_input_parameters.ensures.told m n first second ends other
    (firsts c.args.a.now c.args.b.now c.in-Some-Some.rest.now c.in-Some-Some.others.now c.in-Some-Some.first.now c.in-Some-Some.other.now
    m n first second e f one two h).1

pub returns-else-is_same_input_parameter-clause-told : goal.returns-else-is_same_input_parameter-clause-told
returns-else-is_same_input_parameter-clause-told t c = λ m n first second ends other h.
    let e = c.in-Some-Some.ensures.cases.0 in
    let f = c.in-Some-Some.ensures'.cases.0 in
    let one = first_fits c.args.a.now c.in-Some-Some.rest.now c.in-Some-Some.first.now e c.requires.first in
    let two = first_fits c.args.b.now c.in-Some-Some.others.now c.in-Some-Some.other.now f c.requires.second in
    c.is_same_input_parameter.ensures.1
    (firsts c.args.a.now c.args.b.now c.in-Some-Some.rest.now c.in-Some-Some.others.now c.in-Some-Some.first.now c.in-Some-Some.other.now
    m n first second e f one two h).0
