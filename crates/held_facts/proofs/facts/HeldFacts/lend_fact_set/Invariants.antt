use Rattle.std.proofs.Common.{◌≡◌, ◌&&◌, take}
use Rattle.tile_fact.specs.declared.fact.Fact.{Fact}
use Rattle.held_facts.specs.Facts.{holds, is_among}
use Rattle.held_facts.proofs.facts.HeldFacts.lend_fact_set.Given as goal

-- the facts of the first keys are taken
abbrev pub invariant-loop-key : goal.invariant-loop-key
invariant-loop-key g l = (f : Fact) → holds l.state f ≡ (holds l.self f && is_among (take l.key-index l.keys) f.key)
