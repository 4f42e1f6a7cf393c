use Rattle.std.proofs.Common.{refl}
use Rattle.leases.specs.Rules.{empty}
use Rattle.leases.proofs.log.NewLeaseLog.new.Goals as goal

pub open-seen-requires : goal.open-seen-requires
open-seen-requires c = (record { words = refl; legal = (0, empty) }, λ log. tt, c.alone.ensures.1)
