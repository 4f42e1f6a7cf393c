use Rattle.std.proofs.Common.{◌≡◌, ◌≤◌, ◌-◌, filter, length, take}
use Rattle.std.specs.Option.{option_copied}
use Rattle.std.specs.Prelude.{slice_get}
use Rattle.held_facts.specs.Facts.{facts_in, names_one}
use Rattle.held_facts.proofs.facts.HeldFacts.count_facts_of_jobs.Given as goal

-- the first facts are counted, and the next one is at hand
abbrev pub invariant-loop-next : goal.invariant-loop-next
invariant-loop-next g l = record {
  counted : l.count ≡ length (filter (λ f. names_one l.jobs f.key) (take l.passed (facts_in l.self)));
  few : l.count ≤ l.passed;
  next : option_copied l.next ≡ slice_get (facts_in l.self) l.passed;
}

abbrev pub decreases-loop-next : goal.decreases-loop-next
decreases-loop-next g l = length (facts_in l.self) - l.passed
