use Rattle.farm_turns.proofs.Progress.{at_worked}
use Rattle.farm_turns.proofs.shift.WorkerShift.lease_and_make_one_tile.Goals as goal

pub returns-in_ok-done-clause-worked : goal.returns-in_ok-done-clause-worked
returns-in_ok-done-clause-worked g c =
    at_worked g.P.WorkerPlace.has_log c.args.self.now.rules c.lease_first_open_work_key.new.self.rules c.make_and_share_tile-done.new.self.rules c.args.turn c.in-Some.key (g.P.WorkerPlace.needs_of c.in-Some.plan)
    c.in_ok-key.ensures.rules c.in_ok-done.ensures.rules (rw c.in-Some.is at c.in_ok-key.ensures.some) c.in_ok-done.ensures.made c.release_work_key.ensures.released
