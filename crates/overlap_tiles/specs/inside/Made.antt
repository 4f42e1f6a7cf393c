-- How the code puts a layout together from a list of boxes: the tiles that it needs of each stage, and where each step lies.
use Rattle.std.specs.Prelude.{ℕ, suc, max, ◌+◌, ◌==◌, nat_lt, nat_le, Bool, if◌then◌else◌, Option, List, [], ◌∷◌, find, filter, map, length}
use Rattle.std.specs.Prelude.{slice_set, slice_index_or, replicate}
use Rattle.std.specs.Option.{option_map}
use Rattle.domains.specs.Area.{point_count}
use Rattle.domains.specs.Greatest.{greatest}
use Rattle.domains.specs.declared.area.Area.{Area}
use Rattle.job.specs.Pipeline.{Pipeline}
use Rattle.job.specs.Answers.{Tile}
use Rattle.job.specs.Reads.{Read, stage_read}
use Rattle.job.specs.Readers.{grid_at}
use Rattle.tile_boxes.specs.Costs.{inner_steps, steps}
use Rattle.grouping.specs.Greedy.{reads_at}
use Rattle.tile_boxes.specs.Schedules.{is_inlined}
use Rattle.tile_boxes.specs.Targets.{Target}
use Rattle.overlap_tiles.specs.Needs.{tiles_over}
use Rattle.overlap_tiles.specs.declared.ranges.HeldRange.{HeldRange}

-- the area of stage g in a list
abbrev pub find_stage_area_in_boxes : List (ℕ × Area) → ℕ → Option Area
find_stage_area_in_boxes boxes g = option_map (λ b. b.1) (find (λ b. b.0 == g) boxes)

-- the tiles that are needed of stage g
abbrev pub stage_needs : Pipeline → List Bool → List (ℕ × Area) → ℕ → List Tile
stage_needs job inlining boxes g = if is_inlined inlining g then [] else tiles_over g (grid_at job g) (find_stage_area_in_boxes boxes g)

-- ---- the last reader of each stage, in a table by their numbers

-- the table after the step at place n made these reads
abbrev pub marked : ℕ → List ℕ → List Read → List ℕ
marked n lasts [] = lasts
marked n lasts (r ∷ rs) = marked n (slice_set lasts (stage_read r) n) rs

-- the table after steps from place n on
abbrev pub marked_by : Pipeline → ℕ → List ℕ → List (ℕ × Area) → List ℕ
marked_by job n lasts [] = lasts
marked_by job n lasts (s ∷ ss) = marked_by job (suc n) (marked n lasts (reads_at job s.0)) ss

-- the table before any read
abbrev pub unread : Pipeline → List ℕ
unread job = replicate (length job.stages) 0

-- for each stage the last place at which it is read; 0 where it is not
abbrev pub list_last_reader_places_by_stage : Pipeline → List (ℕ × Area) → List ℕ
list_last_reader_places_by_stage job steps = marked_by job 0 (unread job) steps

-- ---- ranges, the held ones in the order of their starts

-- the ranges that are still read at place k or later
abbrev pub still_held : ℕ → List HeldRange → List HeldRange
still_held k held = filter (λ h. nat_le k h.last) held

-- the least start, not below the given one, at which `len` places meet no held range
abbrev pub find_first_gap : ℕ → ℕ → List HeldRange → ℕ
find_first_gap len start [] = start
find_first_gap len start (h ∷ hs) = if nat_le (start + len) h.start then start else find_first_gap len (max start (h.start + h.len)) hs

-- one more range, inserted by its start
abbrev pub with_held : HeldRange → List HeldRange → List HeldRange
with_held new [] = new ∷ []
with_held new (h ∷ hs) = if nat_lt new.start h.start then new ∷ h ∷ hs else h ∷ with_held new hs

-- the range of the step at place k, by its number of points and its last reader
abbrev pub held_by : ℕ → List HeldRange → ℕ × ℕ → HeldRange
held_by k held s = record { start = find_first_gap s.0 0 (still_held k held); len = s.0; last = s.1 }

-- the held ranges after it
abbrev pub held_after : ℕ → List HeldRange → ℕ × ℕ → List HeldRange
held_after k held s = with_held (held_by k held s) (still_held k held)

-- the ranges of the steps from place k on
abbrev pub laid : ℕ → List HeldRange → List (ℕ × ℕ) → List HeldRange
laid k held [] = []
laid k held (s ∷ ss) = held_by k held s ∷ laid (suc k) (held_after k held s) ss

-- the points and the last reader of a step
abbrev pub laid_of : List ℕ → ℕ × Area → ℕ × ℕ
laid_of lasts s = (point_count s.1, slice_index_or lasts s.0 0)

abbrev pub range_of : HeldRange → ℕ × ℕ
range_of h = (h.start, h.len)

-- the ranges of steps, where this table has their last readers
abbrev pub ranges_by : List ℕ → List (ℕ × Area) → List (ℕ × ℕ)
ranges_by lasts inner = map range_of (laid 0 [] (map (laid_of lasts) inner))

-- the size of the least scratch memory that contains the ranges
abbrev pub size_of : List (ℕ × ℕ) → ℕ
size_of ranges = greatest (map (λ r. r.0 + r.1) ranges)

-- the ranges of a target
abbrev pub ranges_for : Target → List (ℕ × ℕ)
ranges_for t = ranges_by (list_last_reader_places_by_stage t.job (steps t)) (inner_steps t)
