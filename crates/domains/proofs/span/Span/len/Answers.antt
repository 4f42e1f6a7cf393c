use Rattle.std.proofs.Common.{rules}
use Rattle.domains.proofs.Spans.{counts_numbers}
use Rattle.domains.proofs.span.Span.len.Goals as goal

pub returns-clause-count : goal.returns-clause-count
returns-clause-count c = counts_numbers _ c.args.self.now (search rules)
