use Rattle.std.proofs.Common.{ap, length, subst, sym, List}
use Rattle.leases.specs.Rules.{IsLegal, empty}
use Rattle.leases.specs.declared.entry.LeaseEntry.{LeaseEntry}
use Rattle.leases.proofs.log.NewLeaseLog.into_named.Goals as goal

pub invariant_of-none : goal.invariant_of-none
invariant_of-none g c =
    let none = c.args.self.empty in
    (ap length (sym none), c.requires, (0, subst (λ (log : List LeaseEntry). IsLegal log 0) (sym none) empty))
