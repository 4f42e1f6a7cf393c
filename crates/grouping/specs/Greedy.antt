-- The greedy grouping visits functions from the last to the first in dependence order. A function is inlined if all its readers
-- are computed in the tiles of one stage, inlining pays, and its boxes fit in scratch memory.
use Rattle.std.specs.Prelude.{ℕ, ◌+◌, ◌*◌, ◌==◌, nat_le, Bool, true, ◌&&◌, not, if◌then◌else◌, Option, Some, None, List, [], ◌∷◌}
use Rattle.std.specs.Prelude.{filter, length, slice_get, slice_set, slice_index_or}
use Rattle.std.specs.List.{fold, list_any, list_all, range_with_len}
use Rattle.std.specs.Option.{option_map_or}
use Rattle.job.specs.Pipeline.{Pipeline}
use Rattle.job.specs.Reads.{Read, stage_read, reads_of}
use Rattle.job.specs.Answers.{is_output}
use Rattle.tile_boxes.specs.Order.{backward}
use Rattle.tile_boxes.specs.Schedules.{is_function_stage, all_stored}
use Rattle.tile_boxes.specs.Costs.{cost, stage_fits}

-- ---- readers

-- what a stage reads
abbrev pub reads_at : Pipeline → ℕ → List Read
reads_at job r = option_map_or (λ s. reads_of s.body) (slice_get job.stages r) []

-- whether stage r reads stage g
abbrev pub is_reader_of_stage : Pipeline → ℕ → ℕ → Bool
is_reader_of_stage job g r = list_any (λ x. stage_read x == g) (reads_at job r)

-- the stages that read stage g, from the last in dependence order to the first
abbrev pub readers : Pipeline → ℕ → List ℕ
readers job g = filter (is_reader_of_stage job g) (backward job.stages)

-- ---- groups

-- which functions are inlined, and the group of each stage: the stored stage in whose tiles it is computed. Planes have no tiles,
-- and are their own groups
pub record Grouping : Type 0 where
  pub inlining : List Bool
  pub groups : List ℕ

-- each stage is stored, and its own group
abbrev pub initial_grouping : Pipeline → Grouping
initial_grouping job = record { inlining = all_stored job; groups = range_with_len 0 (length job.stages) }

abbrev pub group : Grouping → ℕ → ℕ
group c g = slice_index_or c.groups g g

-- the one group of all these stages, if there are any and they have one
abbrev pub find_common_group : Grouping → List ℕ → Option ℕ
find_common_group c [] = None
find_common_group c (r ∷ rs) = if list_all (λ q. group c q == group c r) rs then Some (group c r) else None

-- stage g is inlined, and computed in the tiles of stage h
abbrev pub with_inlined : Grouping → ℕ → ℕ → Grouping
with_inlined c g h = record { inlining = slice_set c.inlining g true; groups = slice_set c.groups g h }

-- ---- the rule

-- the cost of a stage; 0 where it has none
abbrev pub cost_or_zero : Pipeline → List Bool → ℕ → ℕ
cost_or_zero job inlining g = option_map_or (λ n. n) (cost job inlining g) 0

-- with g inlined, h takes at most `percent` percent more points than g and h take apart
abbrev pub pays : Pipeline → ℕ → List Bool → ℕ → ℕ → Bool
pays job percent inlining g h =
    nat_le (100 * cost_or_zero job (slice_set inlining g true) h)
    ((100 + percent) * (cost_or_zero job inlining h + cost_or_zero job inlining g))

-- with g inlined, each tile of h fits in scratch memory
abbrev pub has_room : Pipeline → List Bool → ℕ → ℕ → Bool
has_room job inlining g h = stage_fits job (slice_set inlining g true) h (slice_get job.stages h)

-- stage g is inlined in the group of its readers, if they have one, where the rule allows it
abbrev pub inlined_if : Pipeline → ℕ → Grouping → ℕ → Option ℕ → Grouping
inlined_if job percent c g None = c
inlined_if job percent c g (Some h) =
    if pays job percent c.inlining g h && has_room job c.inlining g h then with_inlined c g h else c

-- a function that is no output is inlined if its readers have one group, that pays, and each tile of the group fits in scratch
-- memory
abbrev pub visited : Pipeline → ℕ → Grouping → ℕ → Grouping
visited job percent c g =
    if is_function_stage job g && not (is_output job g) then inlined_if job percent c g (find_common_group c (readers job g)) else c

abbrev pub group_stages_greedily : Pipeline → ℕ → Grouping
group_stages_greedily job percent = fold (visited job percent) (initial_grouping job) (backward job.stages)

-- for each stage, whether it is inlined after all have been visited
unfoldable pub greedy_inlining : Pipeline → ℕ → List Bool
greedy_inlining job percent = (group_stages_greedily job percent).inlining
