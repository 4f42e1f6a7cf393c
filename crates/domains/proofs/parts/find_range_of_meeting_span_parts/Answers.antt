use Rattle.std.proofs.Common.{rules, arith, ◌≡◌, subst}
use Rattle.domains.specs.Span.{IsSpan, meet_of}
use Rattle.domains.specs.Tiles.{part_at}
use Rattle.domains.proofs.Meetings.{parts_ordered, meeting_from, meeting_from_none}
use Rattle.domains.proofs.parts.find_range_of_meeting_span_parts.Goals as goal

pub returns-in-Some-clause-parts : goal.returns-in-Some-clause-parts
returns-in-Some-clause-parts c =
    let meet : IsSpan (meet_of c.args.span.now c.args.other.now) = subst IsSpan c.in-Some.ensures.ends c.in-Some.ensures.within in
    let first : c.compute_span_part_index.result ≡ part_at c.args.span.now c.args.side (meet_of c.args.span.now c.args.other.now).lo = search rules in
    let last : c.compute_span_part_index-in-Some.result ≡ part_at c.args.span.now c.args.side (meet_of c.args.span.now c.args.other.now).hi =
    search rules in
    meeting_from c.args.span.now c.args.other.now c.args.side _ _ c.in-Some.ensures.both.0 meet c.requires first last

pub returns-in-Some-clause-ordered : goal.returns-in-Some-clause-ordered
returns-in-Some-clause-ordered c =
    let meet : IsSpan (meet_of c.args.span.now c.args.other.now) = subst IsSpan c.in-Some.ensures.ends c.in-Some.ensures.within in
    let first : c.compute_span_part_index.result ≡ part_at c.args.span.now c.args.side (meet_of c.args.span.now c.args.other.now).lo = search rules in
    let last : c.compute_span_part_index-in-Some.result ≡ part_at c.args.span.now c.args.side (meet_of c.args.span.now c.args.other.now).hi =
    search rules in
    omega (arith, first, last, parts_ordered c.args.span.now c.args.other.now c.args.side c.in-Some.ensures.both.0 meet c.requires)

pub returns-in-None-clause-parts : goal.returns-in-None-clause-parts
returns-in-None-clause-parts c =
    meeting_from_none c.args.span.now c.args.other.now c.args.side c.in-None.ensures.both.0 c.in-None.ensures.both.1 c.requires
    c.in-None.ensures.none
