-- What a catalog holds of each job: the canonical text of its program, and its pipeline. These determine the two identities and
-- the bytes that are hashed.
use Rattle.std.specs.Prelude.{ℕ, ◌≡◌, ◌≤◌, List, Some, length, slice_get}
use Rattle.sha2.specs.Sha256.{sha256}
use Rattle.job.specs.declared.job.Job.{Job}
use Rattle.job.specs.Identity.{input_bytes, input_id}
use Rattle.job.specs.Kept.{pipeline_in, program_text_in}
use Rattle.job.specs.Pipeline.{Pipeline}
use Rattle.job.specs.WellFormed.{IsJob}
use Rattle.identity.specs.declared.job_ids.JobId.{JobId}
pub use Rattle.identity.specs.Keys.{ids_in}

pub record Entry : Type 0 where
  pub text : List ℕ
  pub pipeline : Pipeline

abbrev pub entry_of : Job → Entry
entry_of job = record { text = program_text_in job; pipeline = pipeline_in job }

-- the digests of the text and of the program's input
abbrev pub ids_of : Entry → JobId
ids_of entry = record { program = sha256 entry.text; input = input_id entry.pipeline }

-- the same bytes are hashed of both
abbrev pub AreHashedAlike : Entry → Entry → Type 0
AreHashedAlike a b = (a.text ≡ b.text) × (input_bytes a.pipeline ≡ input_bytes b.pipeline)

-- the job of these identities is at this place
abbrev pub StandsAt : List Entry → JobId → ℕ → Type 0
StandsAt entries ids i = (entry : Entry) × (slice_get entries i ≡ Some entry) × (ids_of entry ≡ ids)

-- no two jobs have equal identities, and there are at most 16
pub record IsCatalog (entries : List Entry) : Type 0 where
  pub apart : (ids : JobId) (i j : ℕ) → StandsAt entries ids i → StandsAt entries ids j → i ≡ j
  pub few : length entries ≤ 16

-- each job of it is well formed
abbrev pub AreJobs : List Entry → Type 0
AreJobs entries = (i : ℕ) (entry : Entry) → slice_get entries i ≡ Some entry → IsJob entry.pipeline
