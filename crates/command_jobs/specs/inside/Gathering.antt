-- The line of what an accumulator accumulated.
use Rattle.std.specs.Prelude.{ℕ, List, [], slice_get}
use Rattle.std.specs.Option.{option_map_or}
use Rattle.accumulators.specs.Answers.{Gathered}
use Rattle.job.specs.Pipeline.{Body, plane, function, accumulator, Stage, Pipeline}
use Rattle.command_jobs.specs.Results.{total_line}

-- by the name and the bins of its stage
abbrev pub body_gathered_line : Gathered → Stage → Body → List ℕ
body_gathered_line x s (accumulator way bins value bin) = total_line s.name bins x.bins
body_gathered_line x s (plane n) = []
body_gathered_line x s (function pieces otherwise) = []

abbrev pub gathered_line : Pipeline → Gathered → List ℕ
gathered_line job x = option_map_or (λ s. body_gathered_line x s s.body) (slice_get job.stages x.stage) []
