use Rattle.part_stages.proofs.Spans.{found_side}
use Rattle.part_stages.proofs.part_reads.find_part_span_under_side.Goals as goal

pub returns : goal.returns
returns c =
    found_side c.args.span.now c.args.side c.shrink_part_span.result c.if-side-ne1.false c.shrink_part_span.ensures.lo c.shrink_part_span.ensures.hi
