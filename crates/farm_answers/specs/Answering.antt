-- The answer of a job of a catalog, and the tiles that are missing for it.
use Rattle.std.specs.Prelude.{◌≡◌, ℕ, Bool, Some, List, [], slice_get}
use Rattle.std.specs.Option.{option_map_or}
use Rattle.accumulators.specs.Answers.{IsAnswer}
use Rattle.accumulators.specs.declared.answer.Answer.{Answer}
use Rattle.catalog.specs.Entries.{Entry}
use Rattle.gossip_core.specs.Finishing.{lacked_work}
use Rattle.grouping.specs.Inlining.{Inlining, IsScheduleOf}
use Rattle.tile_boxes.specs.Costs.{AllFitScratch}
use Rattle.identity.specs.declared.key.Key.{Key}
use Rattle.fact_store.specs.Facts.{FactSet}

-- the catalog has a job of this number, and the schedule is one of it under which each tile fits into scratch memory
pub record IsPlanned (catalog : List Entry) (job : ℕ) (s : Inlining) : Type 0 where
  pub entry : Entry
  pub there : slice_get catalog job ≡ Some entry
  pub schedule : IsScheduleOf entry.pipeline s
  pub fits : AllFitScratch entry.pipeline s.inlining

-- the answer is the image and the totals of the job of this number
abbrev pub IsAnswerOf : List Entry → ℕ → Answer → Type 0
IsAnswerOf catalog job answer = (entry : Entry) → slice_get catalog job ≡ Some entry → IsAnswer entry.pipeline answer

-- the keys of its stored functions' and its accumulators' tiles of which nothing is held
abbrev pub missing_work : List Entry → ℕ → List Bool → FactSet → List Key
missing_work catalog job inlining s = option_map_or (λ entry. lacked_work s entry inlining) (slice_get catalog job) []
