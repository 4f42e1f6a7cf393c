use Rattle.std.proofs.Common.{rules}
use Rattle.domains.proofs.PartsOfSpans.{place_from, place_few}
use Rattle.domains.proofs.parts.compute_span_part_index.Goals as goal

pub returns-clause-place : goal.returns-clause-place
returns-clause-place c =
    (place_from c.args.span.now c.args.side c.args.v _ (search rules) c.requires.side c.lo.ensures.within c.requires.holds).1

pub returns-clause-few : goal.returns-clause-few
returns-clause-few c = place_few c.args.span.now c.args.side c.args.v _ c.requires.side c.lo.ensures.within (returns-clause-place c)
