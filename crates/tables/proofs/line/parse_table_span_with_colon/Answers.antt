use Rattle.std.proofs.Common.{◌<◌, length, rules}
use Rattle.tables.proofs.LineLaws.{something_behind}
use Rattle.tables.proofs.PartLaws.{then_rest}
use Rattle.tables.proofs.line.parse_table_span_with_colon.Goals as goal

pub returns-then-not-is_empty-clause-none : goal.returns-then-not-is_empty-clause-none
returns-then-not-is_empty-clause-none c =
    let cut = c.split_table_line_at_first_byte in
    let behind = c.in-Some.behind in
    let some : 0 < length behind.now = search rules in
    something_behind c.args.word.now cut.result.0.now behind.now
    (then_rest 58 c.args.word.now cut.result.0.now cut.result.1 behind c.in-Some.is cut.ensures) some
