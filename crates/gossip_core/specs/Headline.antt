-- The headline: all of this holds of the world that any list of events leads to, refused events among them. The events are
-- makings, retirements, sendings, merges, keeps, restarts, and deliveries in any order with losses and repeats. `accepted` has
-- the accepted events, the newest first.
use Rattle.std.specs.List.{Contains}
use Rattle.std.specs.Prelude.{◌≡◌, ◌≢◌, ℕ, ◌↔◌, List, true, false}
use Rattle.accumulators.specs.Answers.{IsAnswer}
use Rattle.accumulators.specs.declared.answer.Answer.{Answer}
use Rattle.catalog.specs.Entries.{Entry, ids_of}
use Rattle.identity.specs.declared.key.Key.{Key}
use Rattle.job.specs.Answers.{is_result}
use Rattle.job.specs.Pipeline.{Pipeline}
use Rattle.overlap_tiles.specs.Work.{wanted_keys}
use Rattle.tile_fact.specs.declared.update.Update.{Update}
use Rattle.tile_fact.specs.FactFile.{fact_file}
use Rattle.held_facts.specs.Answers.{AreHeld}
use Rattle.held_facts.specs.HeldAnswers.{IsFaultOfTrueFacts}
use Rattle.held_facts.specs.declared.answer_fault.AnswerFault.{AnswerFault}
use Rattle.held_facts.specs.declared.answer_fault.AnswerFault.TheVariants as fault
use Rattle.node_state.specs.HeldAnswers.{IsAnswerFault, IsHeldAnswer}
use Rattle.node_state.specs.States.{IsBelow, IsState, State, facts_in, retired_in, retires}
use Rattle.gossip_events.specs.declared.event.Event.{Event}
use Rattle.gossip_events.specs.declared.event.Event.TheVariants.{Merge}
use Rattle.gossip_core.specs.Networks.{Network}
use Rattle.gossip_core.specs.Steps.{Accepts, WorldWork, held, kept}
use Rattle.gossip_core.specs.Taking.{HasTaken, IsTaken, IsTakenAtKeep}
use Rattle.gossip_core.specs.Truths.{AllTrue}

-- the state has all that the two have, but for facts of jobs that it has retired, and it is the least that has
pub record IsLeastOfBoth (s t both : State) : Type 0 where
  pub first : IsBelow s both
  pub second : IsBelow t both
  pub least : (other : State) → IsBelow s other → IsBelow t other → IsBelow both other

-- the keys of all tiles of a job's outputs and accumulators
abbrev pub wanted : Entry → List Key
wanted entry = wanted_keys (ids_of entry).program entry.pipeline

-- the job has an output or an accumulator
abbrev pub HasResult : Pipeline → Type 0
HasResult job = (g : ℕ) × (is_result job g ≡ true)

-- why a state of true facts answers nothing of the job
abbrev pub IsFaultOfTrueState : State → Entry → AnswerFault → Type 0
IsFaultOfTrueState s entry fault.Retired = retires s (ids_of entry) ≡ true
IsFaultOfTrueState s entry other =
    (retires s (ids_of entry) ≡ false) × IsFaultOfTrueFacts s.facts (ids_of entry).program entry.pipeline other

-- what the state answers of the job, and why it answers nothing
pub record AnswersExactly (s : State) (entry : Entry) : Type 0 where
  -- it answers where the job is not retired and all wanted tiles are held, and then the job's image and totals
  pub answer : (answer : Answer)
      → IsHeldAnswer s (ids_of entry).program entry.pipeline answer
      ↔ ((retires s (ids_of entry) ≡ false) × AreHeld s.facts (wanted entry) × IsAnswer entry.pipeline answer)
  -- A state that holds all wanted tiles of a job with a result has not retired it. So it answers exactly where they are held
  pub held : HasResult entry.pipeline → (answer : Answer)
      → IsHeldAnswer s (ids_of entry).program entry.pipeline answer
      ↔ (AreHeld s.facts (wanted entry) × IsAnswer entry.pipeline answer)
  -- Its fault reports that the job is retired, or names the least wanted tile that is lacked. If none is lacked, only memory is
  -- refused. No tile is disputed or misshapen
  pub fault : (fault : AnswerFault) → IsAnswerFault s (ids_of entry).program entry.pipeline fault ↔ IsFaultOfTrueState s entry fault

pub record Headline (u : WorldWork) (w : Network) (accepted : List Event) : Type 0 where
  -- every fact that a node holds is the pipeline's own value on its tile, and so is each that is kept or was sent
  pub truth : AllTrue u.jobs w
  -- and none is of a job that the node has retired
  pub live : (n : ℕ) → IsState (held w n)
  -- a node holds just what it took
  pub took : (n : ℕ) → IsTaken w.messages accepted n (held w n)
  -- and keeps just what it had taken at its last keep
  pub keeps : (n : ℕ) → IsTakenAtKeep w.messages accepted n (kept w n)
  -- nodes that took the same hold equal states, with equal bytes
  pub equal : (n m : ℕ) → ((update : Update) → HasTaken w.messages accepted n update ↔ HasTaken w.messages accepted m update)
      → (held w n ≡ held w m)
      × (fact_file (retired_in (held w n)) (facts_in (held w n)) ≡ fact_file (retired_in (held w m)) (facts_in (held w m)))
  -- after a merge a node holds the least state that has what both held, and every other node what it held
  pub merging : (a b : ℕ) (new : Network) → Accepts u w (Merge a b) new
      → IsLeastOfBoth (held w a) (held w b) (held new a) × ((n : ℕ) → n ≢ a → held new n ≡ held w n)
  -- a node that holds all output tiles of a job answers exactly its image and totals
  pub answers : (n : ℕ) (entry : Entry) → Contains u.jobs entry → AnswersExactly (held w n) entry
