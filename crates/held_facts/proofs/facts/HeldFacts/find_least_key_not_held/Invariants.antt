use Rattle.std.proofs.Common.{take}
use Rattle.held_facts.proofs.AskedLaws.{IsFound}
use Rattle.held_facts.proofs.facts.HeldFacts.find_least_key_not_held.Given as goal

abbrev pub invariant-loop-key : goal.invariant-loop-key
invariant-loop-key g l = IsFound l.self (take l.key-index l.keys) l.least
