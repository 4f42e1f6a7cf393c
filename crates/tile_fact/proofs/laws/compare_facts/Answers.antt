use Rattle.std.proofs.Common.{rules}
use Rattle.tile_fact.proofs.OrderLaws.{equal_facts, fact_order}
use Rattle.tile_fact.specs.Order.{fact_cmp}
use Rattle.tile_fact.proofs.laws.compare_facts.Goals as goal

pub returns-clause-parts : goal.returns-clause-parts
unfolding fact_cmp
returns-clause-parts c = search rules

pub returns-clause-one : goal.returns-clause-one
returns-clause-one c = rw (returns-clause-parts c) (equal_facts c.args.a.now c.args.b.now)

pub returns-clause-total : goal.returns-clause-total
returns-clause-total c = fact_order
