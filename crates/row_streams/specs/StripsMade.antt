-- Strips that are made.
use Rattle.std.specs.Prelude.{ℕ, ◌≡◌, List}
use Rattle.std.specs.List.{flat_map}
use Rattle.job.specs.Kept.{pipeline_in}
use Rattle.job.specs.Pipeline.{Output}
use Rattle.job.specs.declared.job.Job.{Job}
use Rattle.row_streams.specs.Strips.{strip_bytes}
use Rattle.row_streams.specs.declared.strip_streams.StripStream.{StripStream}

-- strip k of the picture of this output, with totals of the job
pub record IsStrip (job : Job) (o : Output) (len k : ℕ) (strip : StripStream) : Type 0 where
  pub bytes : strip.bytes.items ≡ strip_bytes (pipeline_in job) o len k
  pub totals : strip.totals.job.now ≡ job

-- the bytes of strips, one after the other
abbrev pub strips_joined : List StripStream → List ℕ
strips_joined strips = flat_map (λ strip. strip.bytes.items) strips
