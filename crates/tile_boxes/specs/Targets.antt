-- Boxes. A target is a stage over a region of its domain. With it come the inlined functions that it needs, each over its box.
use Rattle.std.specs.Prelude.{ℕ, zero, suc, ◌==◌, ℤ, ◌≡◌, Bool, true}
use Rattle.std.specs.Prelude.{◌&&◌, not, if◌then◌else◌, Option, Some, None, List, [], ◌∷◌, slice_get}
use Rattle.std.specs.List.{flat_map}
use Rattle.domains.specs.Area.{HoldsPoint, IsArea, IsSubarea}
use Rattle.domains.specs.declared.area.Area.{Area}
use Rattle.job.specs.Pipeline.{Stage, Pipeline}
use Rattle.job.specs.Reads.{BodyReads}
use Rattle.tile_boxes.specs.Order.{greatest_rank, order_stages_by_rank, backward}
use Rattle.tile_boxes.specs.Schedules.{is_inlined, is_function_stage}
use Rattle.tile_boxes.specs.Demands.{Demand, meet_of_areas, hull_of_all, body_demands, areas_of}

-- a stage of a job over a region, where these functions are inlined
pub record Target : Type 0 where
  pub job : Pipeline
  pub inlining : List Bool
  pub stage : ℕ
  pub region : Area

abbrev pub target_over : Pipeline → List Bool → ℕ → Area → Target
target_over job inlining g region = record { job = job; inlining = inlining; stage = g; region = region }

-- the region lies in the domain of the stage
pub record IsTarget (t : Target) : Type 0 where
  pub owner : Stage
  pub there : slice_get t.job.stages t.stage ≡ Some owner
  pub area : IsArea t.region
  pub inside : IsSubarea t.region owner.domain

-- ---- the rule

-- the region of a stage in the target, by the boxes: that of the target itself, and the box of an inlined function. Other
-- stages are not in the target
abbrev pub region_by : Target → (ℕ → Option Area) → ℕ → Option Area
region_by t boxes g = if g == t.stage then Some t.region else (if is_inlined t.inlining g then boxes g else None)

abbrev pub stage_demands : Option Stage → Option Area → List Demand
stage_demands None region = []
stage_demands (Some s) None = []
stage_demands (Some s) (Some region) = body_demands s.body region

-- what a stage demands over its region in the target
abbrev pub demands_by : Target → (ℕ → Option Area) → ℕ → List Demand
demands_by t boxes g = stage_demands (slice_get t.job.stages g) (region_by t boxes g)

-- what all stages in the target demand, from the last in dependence order to the first
abbrev pub all_demands_by : Target → (ℕ → Option Area) → List Demand
all_demands_by t boxes = flat_map (demands_by t boxes) (backward t.job.stages)

abbrev pub cut_to : Option Stage → Option Area → Option Area
cut_to None hull = None
cut_to (Some s) None = None
cut_to (Some s) (Some hull) = meet_of_areas hull s.domain

-- the box of a stage by the boxes of its readers: the bounding box of what is demanded of it, intersected with its domain
abbrev pub box_by : Target → (ℕ → Option Area) → ℕ → Option Area
box_by t boxes g = cut_to (slice_get t.job.stages g) (hull_of_all (areas_of g (all_demands_by t boxes)))

-- the boxes after so many steps of the rule
abbrev pub box_within : Target → ℕ → ℕ → Option Area
box_within t zero g = None
box_within t (suc n) g = box_by t (box_within t n) g

-- the box of a stage: those that read it have greater ranks, so as many steps as there are ranks are enough
unfoldable pub box : Target → ℕ → Option Area
box t g = box_within t (suc (greatest_rank t.job.stages)) g

-- the region of a stage in the target; none where it is not in it
abbrev pub region : Target → ℕ → Option Area
region t g = region_by t (box t) g

-- ---- lists

abbrev pub with_number : ℕ → Option Area → List (ℕ × Area)
with_number g None = []
with_number g (Some a) = (g, a) ∷ []

-- whether stage g is a function other than the target
abbrev pub is_function_other_than_target : Target → ℕ → Bool
is_function_other_than_target t g = is_function_stage t.job g && not (g == t.stage)

abbrev pub numbered_box : Target → ℕ → List (ℕ × Area)
numbered_box t g = if is_function_other_than_target t g then with_number g (box t g) else []

-- the functions that have a box, stored or inlined, with their boxes, in dependence order
abbrev pub boxes : Target → List (ℕ × Area)
boxes t = flat_map (numbered_box t) (order_stages_by_rank t.job.stages)

-- a function with its box, which lies in its domain
pub record IsListed (t : Target) (b : ℕ × Area) : Type 0 where
  pub owner : Stage
  pub there : slice_get t.job.stages b.0 ≡ Some owner
  pub function : is_function_stage t.job b.0 ≡ true
  pub is : box t b.0 ≡ Some b.1
  pub area : IsArea b.1
  pub inside : IsSubarea b.1 owner.domain

-- ---- what boxes are for

-- a point lies in the box of a stage
pub record IsInBox (t : Target) (g : ℕ) (r c : ℤ) : Type 0 where
  pub area : Area
  pub there : box t g ≡ Some area
  pub holds : HoldsPoint area r c

-- all that a stage in the target reads at a point of its region lies in the box of what it reads
abbrev pub HasWhatItReads : Target → Type 0
HasWhatItReads t =
    (g : ℕ) (s : Stage) (a : Area) → slice_get t.job.stages g ≡ Some s → region t g ≡ Some a
    → (r c : ℤ) → HoldsPoint a r c → BodyReads (IsInBox t) s.body r c
