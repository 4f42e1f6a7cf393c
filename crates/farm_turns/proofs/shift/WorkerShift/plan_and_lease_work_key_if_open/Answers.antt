use Rattle.std.proofs.Common.{rules, arith, refl}
use Rattle.farm_turns.specs.Turns.{Is_taken}
use Rattle.farm_turns.proofs.shift.WorkerShift.plan_and_lease_work_key_if_open.Goals as goal

pub returns-then-not-leased : goal.returns-then-not-leased
returns-then-not-leased g c = record {
  rules = refl;
  settled = omega arith;
  none = λ s at. (Is_taken (g.P.WorkerPlace.needs_of c.in-Open.plan), search rules);
  some = tt;
}
