use Rattle.std.proofs.Common.{◌≡◌, take}
use Rattle.std.specs.List.{flat_map}
use Rattle.job.specs.Kept.{pipeline_in}
use Rattle.held_facts.specs.Facts.{facts_of}
use Rattle.held_facts.proofs.ReadyNeeds.{AreReadyBefore}
use Rattle.held_facts.proofs.facts.HeldFacts.copy_held_facts_of_needed_keys.Given as goal

-- the facts of the needs so far, all of which are ready
abbrev pub invariant-loop-need : goal.invariant-loop-need
invariant-loop-need g l = record {
  facts : l.facts.items ≡ flat_map (facts_of l.self) (take l.need-index l.needs);
  ready : AreReadyBefore l.self (pipeline_in l.job) l.needs l.need-index;
}
