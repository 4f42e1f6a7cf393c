use Rattle.grouping.proofs.GroupsFollowChains.{groups_are_stored, groups_at_last, groups_after}
use Rattle.grouping.proofs.laws.groups_follow_chains.Goals as goal

pub returns-clause-stored : goal.returns-clause-stored
returns-clause-stored c = groups_are_stored

pub returns-clause-chains : goal.returns-clause-chains
returns-clause-chains c = groups_at_last

pub returns-clause-on_the_way : goal.returns-clause-on_the_way
returns-clause-on_the_way c = groups_after
