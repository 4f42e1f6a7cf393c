use Rattle.std.proofs.Common.{arith, rules}
use Rattle.std.proofs.lemmas.Result.{err_from_is_err_and}
use Rattle.tables.specs.Lines.{parts}
use Rattle.tables.proofs.IntegerLaws.{as_many_numbers}
use Rattle.tables.proofs.LineLaws.{a_table, as_many, other_numbers}
use Rattle.tables.proofs.line.parse_table_from_fields.Goals as goal

pub returns-then-count-gt-MOST_ENTRIES-clause-fault : goal.returns-then-count-gt-MOST_ENTRIES-clause-fault
returns-then-count-gt-MOST_ENTRIES-clause-fault c bad table tells =
    let span = c.in-Some-parse_table_span_with_colon in
    let many = as_many c.args.name.now c.args.ends.now (parts 32 c.args.entries.now) span.span table span.ensures.some tells in
    absurd (omega (arith, many.0, many.1, c.len-count.ensures.number, c.if-count-gt-MOST_ENTRIES.true))

pub returns-in_err-values-clause-fault : goal.returns-in_err-values-clause-fault
returns-in_err-values-clause-fault c =
    let span = c.in-Some-parse_table_span_with_colon in
    let p = err_from_is_err_and c.from_residual.result c.from_residual.ensures.1 in
    rw (p.1, p.2) (λ bad.
    other_numbers c.args.name.now c.args.ends.now (parts 32 c.args.entries.now) span.span c.len-count.result span.ensures.some
    c.len-count.ensures.number (c.in_err-values.ensures.none bad))

pub returns-in_err-values-clause-memory : goal.returns-in_err-values-clause-memory
returns-in_err-values-clause-memory c =
    let span = c.in-Some-parse_table_span_with_colon in
    let p = err_from_is_err_and c.from_residual.result c.from_residual.ensures.1 in
    rw (p.1, p.2) (λ out.
    a_table c.args.name.now c.args.ends.now (parts 32 c.args.entries.now) span.span c.len-count.result c.in-Some.ensures.named
    span.ensures.some span.ensures.within c.len-count.ensures.number c.if-count-gt-MOST_ENTRIES.false (c.in_err-values.ensures.memory out))

pub returns-in_err-new-clause-memory : goal.returns-in_err-new-clause-memory
returns-in_err-new-clause-memory c =
    let (numbers, spelled, each, values) = c.in_ok-values.ensures.some in
    let span = c.in-Some-parse_table_span_with_colon in
    let p = err_from_is_err_and c.from_residual-in_err-new.result c.from_residual-in_err-new.ensures.1 in
    rw (p.1, p.2) (λ out.
    a_table c.args.name.now c.args.ends.now (parts 32 c.args.entries.now) span.span c.len-count.result c.in-Some.ensures.named
    span.ensures.some span.ensures.within c.len-count.ensures.number c.if-count-gt-MOST_ENTRIES.false (numbers, spelled, each))

pub returns-clause-found : goal.returns-clause-found
returns-clause-found c =
    let (numbers, spelled, each, values) = c.in_ok-values.ensures.some in
    let many = as_many_numbers (parts 32 c.args.entries.now) numbers spelled in
    let span = c.in-Some-parse_table_span_with_colon in
    record {
      named = c.in-Some.ensures.named;
      name_is = c.in-Some.ensures.some;
      span = span.span;
      ends_are = span.ensures.some;
      lo_is = search rules;
      shape = record { indices = span.ensures.within; size = omega (arith, many, each, c.len-count.ensures.number); few = omega (arith, many, each) };
      numbers = numbers;
      spelled = spelled;
      values_are = search rules;
    }
