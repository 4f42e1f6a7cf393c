-- The totals of an accumulator from partials that come in one after the other, wherever they were made.
use Rattle.std.specs.Prelude.{ℕ, ℤ, ◌≡◌, Some, List, [], ◌∷◌, fold, slice_get}
use Rattle.std.specs.Option.{option_map_or}
use Rattle.domains.specs.Span.{Ends}
use Rattle.operators.specs.declared.operator.ReductionOp.{ReductionOp}
use Rattle.job.specs.Pipeline.{Body, plane, function, accumulator, Pipeline}
use Rattle.job.specs.Readers.{stage_fold, stage_bins}
use Rattle.accumulators.specs.Answers.{Gathered}
use Rattle.reductions.specs.Bins.{starts, joined_bins}
use Rattle.accumulators.specs.declared.running.RunningTotal.{RunningTotal}

-- the bins after these partials came in, in this order
abbrev pub taken : ReductionOp → Ends → List (List ℤ) → List ℤ
taken way bins partials = fold (joined_bins way) (starts way bins) partials

-- the totals of stage g from them, if it is an accumulator
abbrev pub body_gathered_from : ℕ → List (List ℤ) → Body → List Gathered
body_gathered_from g partials (accumulator way bins value bin) = record { stage = g; lo = bins.lo; bins = taken way bins partials } ∷ []
body_gathered_from g partials (plane n) = []
body_gathered_from g partials (function cases otherwise) = []

abbrev pub gathered_from : Pipeline → ℕ → List (List ℤ) → List Gathered
gathered_from job g partials = option_map_or (λ s. body_gathered_from g partials s.body) (slice_get job.stages g) []

-- these partials of accumulator g came in
pub record HasTaken (job : Pipeline) (g : ℕ) (partials : List (List ℤ)) (x : RunningTotal) : Type 0 where
  pub stage : x.stage ≡ g
  pub way : stage_fold (slice_get job.stages g) ≡ Some x.op
  pub span : stage_bins (slice_get job.stages g) ≡ Some x.span
  pub bins : x.bins.items ≡ taken x.op x.span partials
