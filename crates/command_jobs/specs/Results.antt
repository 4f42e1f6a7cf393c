-- The result of a job in bytes: the picture of its output, and a line for each accumulator.
use Rattle.std.specs.Prelude.{◌≡◌, ℕ, ℤ, List, [], ◌∷◌, ◌++◌, length, slice_get}
use Rattle.std.specs.Fmt.{signed_decimal}
use Rattle.std.specs.List.{flat_map, range_with_len}
use Rattle.std.specs.Option.{option_map_or}
use Rattle.domains.specs.Span.{Ends}
use Rattle.netpbm.specs.Spelling.{spelling}
use Rattle.pipe_tree.specs.Tree.{Declaration}
use Rattle.job.specs.Answers.{image}
use Rattle.job.specs.Pipeline.{Body, plane, function, accumulator, Stage, Pipeline}
use Rattle.job.specs.Totals.{totals}

-- ---- lines of accumulators

-- a blank and a number
abbrev pub bin_text : ℤ → List ℕ
bin_text n = 32 ∷ signed_decimal n

-- a blank, the first bin, two dots, the last bin, a colon
abbrev pub ends_text : Ends → List ℕ
ends_text ends = 32 ∷ [] ++ signed_decimal ends.lo ++ 46 ∷ 46 ∷ [] ++ signed_decimal ends.hi ++ 58 ∷ []

-- the name, the first and the last bin, the value of each bin, LF
abbrev pub total_line : List ℕ → Ends → List ℤ → List ℕ
total_line name ends bins = name ++ ends_text ends ++ flat_map bin_text bins ++ 10 ∷ []

-- the line of a stage, if it is an accumulator
abbrev pub body_line : Pipeline → ℕ → Stage → Body → List ℕ
body_line job g s (accumulator way bins value bin) = total_line s.name bins (totals job g)
body_line job g s (plane n) = []
body_line job g s (function pieces otherwise) = []

abbrev pub line_at : Pipeline → ℕ → List ℕ
line_at job g = option_map_or (λ s. body_line job g s s.body) (slice_get job.stages g) []

-- the lines of all accumulators, in the order of the stages
abbrev pub total_lines : Pipeline → List ℕ
total_lines job = flat_map (line_at job) (range_with_len 0 (length job.stages))

-- ---- the result

-- the raw spelling of the picture, if the job has an output, then the lines of its accumulators
abbrev pub result_bytes : Pipeline → List ℕ
result_bytes job = option_map_or spelling (image job) [] ++ total_lines job

-- what `eval` and `run` report of a job
abbrev pub SaysResult : List Declaration → Pipeline → List ℕ → Type 0
SaysResult tree job bytes = bytes ≡ result_bytes job
