use Rattle.std.proofs.Common.{refl}
use Rattle.leases.specs.Rules.{empty}
use Rattle.leases.proofs.desk.Desk.new.Goals as goal

pub returns-clause-stands : goal.returns-clause-stands
returns-clause-stands c = let h = c.new.ensures.empty in record { legal = empty; clock = refl; shows = λ q. rw h refl }
