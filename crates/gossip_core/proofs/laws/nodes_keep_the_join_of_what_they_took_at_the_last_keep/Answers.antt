use Rattle.gossip_core.proofs.PartLaws.{join_at_keep, keeps_nothing}
use Rattle.gossip_core.proofs.laws.nodes_keep_the_join_of_what_they_took_at_the_last_keep.Goals as goal

pub returns-clause-joined : goal.returns-clause-joined
returns-clause-joined c u size h accepted w leads n = join_at_keep u size h accepted w leads n

pub returns-clause-none : goal.returns-clause-none
returns-clause-none c u size h accepted w leads n none = keeps_nothing u size h accepted w leads n none
