-- What a stage demands of others over a region.
use Rattle.std.specs.Prelude.{ℕ, ◌==◌, ◌/◌, pos, ◌+ℤ◌, ◌-ℤ◌, Option, Some, None, List, [], ◌++◌, map, filter, length, All}
use Rattle.std.specs.List.{flat_map, fold}
use Rattle.domains.specs.Span.{Ends}
use Rattle.domains.specs.Area.{IsSubarea, common_of, area_hull}
use Rattle.domains.specs.Index.{image_of}
use Rattle.domains.specs.declared.area.Area.{Area}
use Rattle.job.specs.Formula.{Formula}
use Rattle.job.specs.Pipeline.{JobCase, Body, plane, function, accumulator}
use Rattle.job.specs.Values.{factors}
use Rattle.job.specs.Reads.{Read, point, window, stage_read, reads_in}
use Rattle.job.specs.Boxes.{if_some}

-- an area of a stage
pub record Demand : Type 0 where
  pub stage : ℕ
  pub area : Area

-- ---- areas

-- what two areas have in common, if they meet
abbrev pub meet_of_areas : Area → Area → Option Area
meet_of_areas a b = if_some (common_of a b)

-- n more numbers on each side
abbrev pub widen_span : ℕ → Ends → Ends
widen_span n s = record { lo = s.lo -ℤ pos n; hi = s.hi +ℤ pos n }

-- the image of a region under a read: from the indices at its least row and column to those at its greatest; of a stencil
-- the region, widened by half of the kernel
abbrev pub image_under : Read → Area → Area
image_under (point g i j) region = record { rows = image_of i region.rows; cols = image_of j region.cols }
image_under (window g kernel) region =
    record { rows = widen_span (length kernel / 2) region.rows; cols = widen_span (length (factors kernel 0) / 2) region.cols }

-- the bounding box of an area and of those before it, if there are any
abbrev pub hull_with : Option Area → Area → Area
hull_with None a = a
hull_with (Some h) a = area_hull h a

abbrev pub grown_by : Option Area → Area → Option Area
grown_by h a = Some (hull_with h a)

-- the bounding box of all of these; none if there are none
abbrev pub hull_of_all : List Area → Option Area
hull_of_all areas = fold grown_by None areas

-- h is the least area that holds all of these
pub record IsHullOfAll (areas : List Area) (h : Area) : Type 0 where
  pub each : All (λ a. IsSubarea a h) areas
  pub least : (s : Area) → All (λ a. IsSubarea a s) areas → IsSubarea h s

-- ---- demands

-- each read of a formula demands its image
abbrev pub read_demand : Area → Read → Demand
read_demand region x = record { stage = stage_read x; area = image_under x region }

abbrev pub formula_demands : Formula → Area → List Demand
formula_demands f region = map (read_demand region) (reads_in f)

abbrev pub demands_if : Formula → Option Area → List Demand
demands_if f None = []
demands_if f (Some region) = formula_demands f region

-- a case demands what it reads where its box meets the region
abbrev pub meet_of_box : Option Area → Area → Option Area
meet_of_box None region = None
meet_of_box (Some box) region = meet_of_areas box region

abbrev pub case_demands : Area → JobCase → List Demand
case_demands region p = demands_if p.formula (meet_of_box p.box region)

abbrev pub other_demands : Option Formula → Area → List Demand
other_demands None region = []
other_demands (Some f) region = formula_demands f region

-- what holds elsewhere, and an accumulator, demand over all of the region
abbrev pub body_demands : Body → Area → List Demand
body_demands (plane n) region = []
body_demands (function cases otherwise) region = flat_map (case_demands region) cases ++ other_demands otherwise region
body_demands (accumulator fold bins value bin) region = formula_demands value region ++ formula_demands bin region

-- what is demanded of stage g
abbrev pub areas_of : ℕ → List Demand → List Area
areas_of g demands = map (λ d. d.area) (filter (λ d. d.stage == g) demands)
