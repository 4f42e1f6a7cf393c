use Rattle.std.proofs.Common.{◌≡◌, ◌-◌, length, take}
use Rattle.std.specs.Option.{option_copied}
use Rattle.std.specs.Prelude.{slice_get}
use Rattle.held_facts.specs.Facts.{facts_in}
use Rattle.held_facts.proofs.facts.HeldFacts.list_facts.Given as goal

-- the first facts are copied, and the next one is at hand
abbrev pub invariant-loop-next : goal.invariant-loop-next
invariant-loop-next g l = record {
  copied : l.facts.items ≡ take (length l.facts.items) (facts_in l.self);
  next : option_copied l.next ≡ slice_get (facts_in l.self) (length l.facts.items);
}

abbrev pub decreases-loop-next : goal.decreases-loop-next
decreases-loop-next g l = length (facts_in l.self) - length l.facts.items
