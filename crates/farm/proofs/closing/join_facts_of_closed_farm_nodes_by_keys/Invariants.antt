use Rattle.std.proofs.Common.{◌≡◌, take}
use Rattle.farm.specs.Reports.{all_held}
use Rattle.held_facts.specs.Facts.{lent}
use Rattle.farm.proofs.closing.join_facts_of_closed_farm_nodes_by_keys.Given as goal

abbrev pub invariant-loop-one : goal.invariant-loop-one
invariant-loop-one l = l.all ≡ lent (all_held (take l.one-index l.closed)) l.keys
