use Rattle.std.proofs.Common.{arith, ◌<◌, subst}
use Rattle.std.proofs.lemmas.Int.{ints, clamps}
use Rattle.domains.specs.Tiles.{part_count, part_of}
use Rattle.domains.proofs.PartsOfSpans.{starts_within, ends_from}
use Rattle.domains.proofs.parts.compute_nth_span_part.Goals as goal

pub overflow_add-hi : goal.overflow_add-hi
overflow_add-hi c =
    let there : c.args.i < part_count c.args.span.now c.args.side = subst (λ n. c.args.i < n) c.count_span_parts.ensures.number c.if-i-count_span_parts.false in
    let starts = starts_within c.args.span.now c.args.side c.args.i c.lo.ensures.within c.requires.least there in
    omega (arith, ints)

pub from_ends-requires : goal.from_ends-requires
from_ends-requires c =
    let there : c.args.i < part_count c.args.span.now c.args.side = subst (λ n. c.args.i < n) c.count_span_parts.ensures.number c.if-i-count_span_parts.false in
    let starts = starts_within c.args.span.now c.args.side c.args.i c.lo.ensures.within c.requires.least there in
    record { least = omega (arith, ints, clamps); ordered = omega (arith, ints, clamps); most = omega (arith, ints, clamps) }

pub returns-clause-some : goal.returns-clause-some
returns-clause-some c =
    let there : c.args.i < part_count c.args.span.now c.args.side = subst (λ n. c.args.i < n) c.count_span_parts.ensures.number c.if-i-count_span_parts.false in
    let starts = starts_within c.args.span.now c.args.side c.args.i c.lo.ensures.within c.requires.least there in (
      there,
      ends_from _ (part_of c.args.span.now c.args.side c.args.i) _ _ c.from_ends.ensures (omega (arith, ints))
          (omega (arith, ints, clamps)),
    )
