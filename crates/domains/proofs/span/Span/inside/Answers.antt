use Rattle.std.proofs.Common.{rules}
use Rattle.domains.proofs.Spans.{inside_by_ends}
use Rattle.domains.proofs.span.Span.inside.Goals as goal

pub returns-then-holds : goal.returns-then-holds
returns-then-holds c =
    inside_by_ends c.args.self.now c.args.other.now _ _ _ c.lo.ensures.within (search rules) (search rules)
    (c.holds.ensures.0 c.if-holds.true) c.holds-then-holds.ensures
