use Rattle.std.proofs.Common.{rules, ◌≡◌, subst, sym, arith, to_z, of_z, w32}
use Rattle.std.proofs.lemmas.Int.{ints, clamps}
use Rattle.domains.proofs.Spans.{hull_is}
use Rattle.domains.specs.Span.{IsHull, IsSpan, hull_of}
use Rattle.domains.proofs.span.Span.hull.Goals as goal

pub invariant_of-result : goal.invariant_of-result
invariant_of-result c =
    record { least = omega (arith, ints, clamps); ordered = omega (arith, ints, clamps); most = omega (arith, ints, clamps) }

pub returns-clause-within : goal.returns-clause-within
returns-clause-within c =
    (subst IsSpan c.self.view_is c.self.invariant, subst IsSpan c.other.view_is c.other.invariant, invariant_of-result c)

pub returns-clause-least : goal.returns-clause-least
returns-clause-least c =
    let a : IsSpan c.args.self.now = subst IsSpan c.self.view_is c.self.invariant in
    let b : IsSpan c.args.other.now = subst IsSpan c.other.view_is c.other.invariant in
    let lo : to_z w32 (of_z w32 c.min.result) ≡ (hull_of c.args.self.now c.args.other.now).lo = search rules in
    let hi : to_z w32 (of_z w32 c.max.result) ≡ (hull_of c.args.self.now c.args.other.now).hi = search rules in
    subst (IsHull c.args.self.now c.args.other.now) (λ i. record { lo = sym lo i; hi = sym hi i }) (hull_is _ _ a b)
