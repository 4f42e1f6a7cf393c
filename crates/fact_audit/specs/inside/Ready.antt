-- What is computed before facts are judged.
use Rattle.std.specs.Prelude.{ℕ, ◌≡◌, List, Some, Contains, slice_get}
use Rattle.catalog.specs.Entries.{Entry, StandsAt, entry_of, ids_in, ids_of}
use Rattle.identity.specs.declared.job_ids.JobId.{JobId}
use Rattle.job.specs.Kept.{pipeline_in}
use Rattle.whole_stages.specs.Known.{IsServed}
use Rattle.whole_stages.specs.declared.true_stages.ComputedWholeStages.{ComputedWholeStages}
use Rattle.tile_fact.specs.declared.fact.Fact.{Fact}

-- these are all stages that the facts name of the job of these identities
abbrev pub AreNamed : JobId → List Fact → List ℕ → Type 0
AreNamed ids facts stages = (k : ℕ) (fact : Fact) → slice_get facts k ≡ Some fact → ids ≡ ids_in fact.key → Contains stages fact.key.stage

-- all that is needed to judge a fact of this job is computed
abbrev pub IsServedFor : ComputedWholeStages → Fact → Type 0
IsServedFor stages fact = IsServed (pipeline_in stages.job.now) stages.known.buffers.items fact.key.stage

-- the stages are of this job, and suffice to judge the facts that name it
pub record AreStagesFor (facts : List Fact) (entry : Entry) (stages : ComputedWholeStages) : Type 0 where
  pub job : entry_of stages.job.now ≡ entry
  pub served : (k : ℕ) (fact : Fact) → slice_get facts k ≡ Some fact → ids_of entry ≡ ids_in fact.key → IsServedFor stages fact

-- the job of the fact is at this place, and so are its stages, which suffice to judge it
pub record HasStagesFor (catalog : List Entry) (known : List ComputedWholeStages) (fact : Fact) (i : ℕ) : Type 0 where
  pub stages : ComputedWholeStages
  pub there : slice_get known i ≡ Some stages
  pub job : slice_get catalog i ≡ Some (entry_of stages.job.now)
  pub served : IsServedFor stages fact

-- wherever the job of the fact is, the stages that suffice to judge it are computed
abbrev pub IsReady : List Entry → List ComputedWholeStages → Fact → Type 0
IsReady catalog known fact = (i : ℕ) → StandsAt catalog (ids_in fact.key) i → HasStagesFor catalog known fact i

abbrev pub AreReady : List Entry → List Fact → List ComputedWholeStages → Type 0
AreReady catalog facts known = (k : ℕ) (fact : Fact) → slice_get facts k ≡ Some fact → IsReady catalog known fact
