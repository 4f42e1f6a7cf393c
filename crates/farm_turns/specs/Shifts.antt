-- How far a worker has come.
use Rattle.std.specs.Prelude.{◌≡◌, ◌+◌, ℕ, List}
use Rattle.farm_turns.specs.Calls.{Call}
use Rattle.farm_turns.specs.Turns.{Progress, TurnResults, AreTurnResults, after_turn}
use Rattle.farm_turns.specs.declared.counts.TurnCounts.{TurnCounts}
use Rattle.farm_turns.specs.declared.rules.TurnRules.{TurnRules}

-- the worker has come so far: its place may have this log, and its counts are these
pub record IsAt {S : Type 0} (has_log : S → List Call → Type 0) (place : S) (counts : TurnCounts) (g : Progress) : Type 0 where
  pub log : has_log place g.log
  pub repeated : counts.repeated.passed ≡ g.repeated
  pub lost : counts.lost.passed ≡ g.lost
  pub settled : counts.settled ≡ g.settled
  pub settling : counts.settling ≡ g.settling

-- a worker that had come so far has gone through the turn
pub record HasTurned {S : Type 0} (has_log : S → List Call → Type 0) (place : S) (counts : TurnCounts) (rules : TurnRules) (turn : ℕ) (g : Progress) : Type 0 where
  pub results : TurnResults
  pub can : AreTurnResults rules turn g results
  pub at : IsAt has_log place counts (after_turn rules turn g results)

-- the turns up to a number lead a worker from the one place to the other
pub data GoesThrough (rules : TurnRules) (start : Progress) : ℕ → Progress → Type 0 where
  no_turn : GoesThrough rules start 0 start
  one_more : (turns : ℕ) (g : Progress) (results : TurnResults) → GoesThrough rules start turns g → AreTurnResults rules (turns + 1) g results
      → GoesThrough rules start (turns + 1) (after_turn rules (turns + 1) g results)

-- a worker that had come so far has gone through all its turns
pub record HasRun {S : Type 0} (has_log : S → List Call → Type 0) (place : S) (counts : TurnCounts) (rules : TurnRules) (turns : ℕ) (g : Progress) : Type 0 where
  pub after : Progress
  pub through : GoesThrough rules g turns after
  pub at : IsAt has_log place counts after
