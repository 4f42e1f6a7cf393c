use Rattle.std.proofs.Common.{arith, ap}
use Rattle.std.proofs.lemmas.Int.{ints}
use Rattle.domains.specs.Span.{Ends}
use Rattle.pipe_bounds.proofs.taken.compute_stencil_footprint_along_axis.Goals as goal

pub unreachable-requires : goal.unreachable-requires
unreachable-requires c =
    let span = c.lo-least.ensures.within in
    let low = c.requires.near c.args.span.now.lo (omega (arith, ints), span.ordered) in
    let high = c.requires.near c.args.span.now.hi (span.ordered, omega (arith, ints)) in
    c.in-None.ensures.none (record { least = omega (arith, ints); ordered = omega (arith, ints); most = omega (arith, ints) })

pub returns-clause-widened : goal.returns-clause-widened
returns-clause-widened c =
    let span = c.lo-least.ensures.within in
    let low = c.requires.near c.args.span.now.lo (omega (arith, ints), span.ordered) in
    let high = c.requires.near c.args.span.now.hi (span.ordered, omega (arith, ints)) in
    let lo = ap (λ (e : Ends). e.lo) c.in-Some.ensures.some in
    let hi = ap (λ (e : Ends). e.hi) c.in-Some.ensures.some in
    record { lo = omega (arith, ints); hi = omega (arith, ints) }
