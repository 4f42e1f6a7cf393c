use Rattle.std.proofs.Common.{rules, ◌≡◌, subst, IfSome, to_z, of_z, w32}
use Rattle.domains.specs.Span.{IsSpan, meet_of}
use Rattle.domains.proofs.Spans.{meet_some, meet_none}
use Rattle.domains.proofs.span.Span.meet.Goals as goal

pub returns-clause-some : goal.returns-clause-some
returns-clause-some c =
    let e : IfSome c.new.result (λ m. m ≡ meet_of c.args.self.now c.args.other.now) = search rules in
    meet_some _ _ _ e

pub returns-clause-none : goal.returns-clause-none
returns-clause-none c =
    let a : IsSpan c.args.self.now = subst IsSpan c.self.view_is c.self.invariant in
    let b : IsSpan c.args.other.now = subst IsSpan c.other.view_is c.other.invariant in
    let lo : to_z w32 (of_z w32 c.max.result) ≡ (meet_of c.args.self.now c.args.other.now).lo = search rules in
    let hi : to_z w32 (of_z w32 c.min.result) ≡ (meet_of c.args.self.now c.args.other.now).hi = search rules in
    meet_none _ _ _ _ a b (λ i. record { lo = lo i; hi = hi i }) c.new.ensures.none
