use Rattle.gossip_core.proofs.Following.{held_live, leads_follows}
use Rattle.gossip_core.proofs.Unretired.{not_retired}
use Rattle.gossip_core.specs.Steps.{held}
use Rattle.gossip_core.proofs.laws.nodes_that_took_all_of_a_job_have_not_retired_it.Goals as goal

pub returns : goal.returns
returns c u size h accepted w n entry leads good result all =
    not_retired entry (held w n) good result (held_live accepted w n (leads_follows u size h accepted w leads)) all
