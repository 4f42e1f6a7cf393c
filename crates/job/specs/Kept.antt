-- The pipeline that a job is, and the canonical text of its program with its identity.
use Rattle.std.specs.Prelude.{ℕ, List}
use Rattle.sha2.specs.Sha256.{sha256}
use Rattle.job.specs.declared.job.Job.{Job}
use Rattle.job.specs.Pipeline.{Pipeline}
use Rattle.job.specs.Views.{pipeline_of}

abbrev pub pipeline_in : Job → Pipeline
pipeline_in job = pipeline_of job.parts

abbrev pub program_text_in : Job → List ℕ
program_text_in job = job.text.items

abbrev pub program_id_in : Job → List ℕ
program_id_in job = sha256 (program_text_in job)
