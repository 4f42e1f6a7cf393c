-- Worlds in which every fact is true.
use Rattle.std.specs.Prelude.{ℕ, List}
use Rattle.catalog.specs.Entries.{Entry}
use Rattle.held_facts.specs.HeldFacts.{HoldsTrueFacts}
use Rattle.gossip_core.specs.Networks.{Network}
use Rattle.gossip_core.specs.Steps.{held, kept, state_at}

-- each fact that a node holds or keeps is true of the jobs, and so is each that was ever sent
pub record AllTrue (jobs : List Entry) (w : Network) : Type 0 where
  pub holds : (n : ℕ) → HoldsTrueFacts jobs (held w n).facts
  pub keeps : (n : ℕ) → HoldsTrueFacts jobs (kept w n).facts
  pub sent : (k : ℕ) → HoldsTrueFacts jobs (state_at w.messages k).facts
