use Rattle.std.proofs.lemmas.Str.{IsUtf8-from_ascii}
use Rattle.tables.proofs.LineLaws.{spelled_ascii}
use Rattle.tables.proofs.integers.parse_table_integer.Goals as goal

pub returns-in-Err-clause-none : goal.returns-in-Err-clause-none
returns-in-Err-clause-none c z spells =
    c.in-Err.ensures.cases.0 (IsUtf8-from_ascii c.args.word.now (spelled_ascii c.args.word.now z spells))
