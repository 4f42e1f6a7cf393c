use Rattle.gossip_core.proofs.FinishStart.{none_refused, wanted_given, work_given}
use Rattle.gossip_core.proofs.TruthLaws.{accepted_true}
use Rattle.gossip_core.proofs.laws.accepted_finishing_events_give_all_tiles.Goals as goal

pub returns-clause-accepted : goal.returns-clause-accepted
returns-clause-accepted c u w n j entry inlining is jobs truth here planned live room =
    none_refused u w n j entry inlining is (jobs j entry planned.there) truth (λ v new e. accepted_true u v new e is jobs) here planned live room

pub returns-clause-work : goal.returns-clause-work
returns-clause-work c u w n j entry inlining is jobs truth here planned live room =
    work_given u w n j entry inlining is (jobs j entry planned.there) truth (λ v new e. accepted_true u v new e is jobs) here planned live room

pub returns-clause-wanted : goal.returns-clause-wanted
returns-clause-wanted c u w n j entry inlining is jobs truth here planned live room stores =
    wanted_given u w n j entry inlining is (jobs j entry planned.there) truth (λ v new e. accepted_true u v new e is jobs) here
    planned live room stores
