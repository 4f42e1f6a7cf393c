use Rattle.std.proofs.Common.{◌≡◌, take, ◌||◌}
use Rattle.std.specs.List.{list_any}
use Rattle.std.specs.Ordering.{eq_by_cmp}
use Rattle.tile_fact.specs.declared.fact.Fact.{Fact}
use Rattle.tile_fact.specs.Order.{fact_cmp}
use Rattle.held_facts.specs.Facts.{holds, facts_of}
use Rattle.held_facts.proofs.facts.HeldFacts.add_facts_of_key_from_other.Given as goal

-- the first facts of the key are taken
abbrev pub invariant-loop-n : goal.invariant-loop-n
invariant-loop-n g l =
    (f : Fact) → holds l.self f ≡ (holds l.fn.self f || list_any (eq_by_cmp fact_cmp f) (take l.n (facts_of l.other l.key)))
