use Rattle.std.proofs.Common.{◌≤◌, ap, subst, arith, length, List}
use Rattle.std.proofs.lemmas.Bool.{OnTrue_from, leb-true}
use mathlib.Core.List.{IsPrefix}
use Rattle.leases.specs.declared.entry.LeaseEntry.{LeaseEntry}
use Rattle.leases.proofs.Beginnings.{prefix_shorter}
use Rattle.leases.proofs.log.SeenLeases.is_beginning_of.Goals as goal

pub returns : goal.returns
returns g c = OnTrue_from _ _ (λ e.
    let both = c.learn.new.self.log in
    let this : IsPrefix c.self.inside.seen.log both = subst (λ (l : List LeaseEntry). IsPrefix l both) (ap (λ s. s.log) c.again-both.ensures) c.learn.ensures.2 in
    let fewer : c.self.inside.count ≤ c.other.inside.count = leb-true c.self.inside.count c.other.inside.count e in
    let less : length c.self.inside.seen.log ≤ length c.other.inside.seen.log = omega (arith, fewer, c.self.invariant.0, c.other.invariant.0) in
    rw (← c.self.view_is, ← c.other.view_is) (prefix_shorter c.self.inside.seen.log c.other.inside.seen.log both this c.learn.ensures.3 less))
