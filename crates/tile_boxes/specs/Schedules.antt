-- Schedules. A schedule specifies for each stage whether it is inlined, that is recomputed in each tile that needs it, or stored
-- once.
use Rattle.std.specs.Prelude.{ℕ, ◌<◌, ◌≡◌, Bool, true, false, ◌&&◌, List, map, length, slice_get, slice_index_or}
use Rattle.std.specs.List.{range_with_len}
use Rattle.std.specs.Option.{option_map_or}
use Rattle.job.specs.Pipeline.{Body, plane, function, accumulator, Pipeline}
use Rattle.job.specs.Answers.{is_output}

abbrev pub is_inlined : List Bool → ℕ → Bool
is_inlined inlining g = slice_index_or inlining g false

abbrev pub is_function_body : Body → Bool
is_function_body (plane n) = false
is_function_body (function cases otherwise) = true
is_function_body (accumulator fold bins value bin) = false

abbrev pub is_function_stage : Pipeline → ℕ → Bool
is_function_stage job g = option_map_or (λ s. is_function_body s.body) (slice_get job.stages g) false

-- it says so of each stage; only functions are inlined, and no output
pub record IsSchedule (job : Pipeline) (inlining : List Bool) : Type 0 where
  pub each : length inlining ≡ length job.stages
  pub functions : (g : ℕ) → is_inlined inlining g ≡ true → is_function_stage job g ≡ true
  pub inner : (g : ℕ) → is_inlined inlining g ≡ true → is_output job g ≡ false

-- what is inlined if these are requested: only the functions among them
abbrev pub inlining_for : Pipeline → List Bool → List Bool
inlining_for job asked = map (λ g. is_inlined asked g && is_function_stage job g) (range_with_len 0 (length job.stages))

-- each stage is stored
abbrev pub all_stored : Pipeline → List Bool
all_stored job = map (λ s. false) job.stages

-- ---- outputs

-- no output is inlined
abbrev pub StoresOutputs : Pipeline → List Bool → Type 0
StoresOutputs job inlining = (g : ℕ) → is_inlined inlining g ≡ true → is_output job g ≡ false

-- stage g is the least output that is inlined
pub record IsInlinedOutput (job : Pipeline) (inlining : List Bool) (g : ℕ) : Type 0 where
  pub inlined : is_inlined inlining g ≡ true
  pub output : is_output job g ≡ true
  pub least : (k : ℕ) → k < g → is_inlined inlining k ≡ true → is_output job k ≡ false
