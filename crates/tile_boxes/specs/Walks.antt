-- How the code finds boxes: one walk over the stages, each before those that it reads. It keeps for each stage the bounding box
-- of what has been demanded of it; that this gives the boxes of Targets is proved.
use Rattle.std.specs.Prelude.{ℕ, Option, None, List, slice_get, slice_set, slice_index_or, if◌then◌else◌, [], map}
use Rattle.std.specs.List.{fold}
use Rattle.domains.specs.declared.area.Area.{Area}
use Rattle.job.specs.Pipeline.{Stage}
use Rattle.job.specs.WellFormed.{InDomainRange}
use Rattle.job.specs.Kept.{pipeline_in}
use Rattle.tile_boxes.specs.declared.target.BoxWalk.{BoxWalk}
use Rattle.tile_boxes.specs.Demands.{Demand, grown_by}
use Rattle.tile_boxes.specs.Targets.{Target, target_over, cut_to, demands_by, with_number, is_function_other_than_target}

-- an area within 16,384 of 0
pub record InDomainRanges (a : Area) : Type 0 where
  pub rows : InDomainRange a.rows
  pub cols : InDomainRange a.cols

-- how contracts see a target
abbrev pub target_of : BoxWalk → Target
target_of s = target_over (pipeline_in s.job.now) s.schedule.now s.stage s.region

-- a bounding box for each stage, with one more demand
abbrev pub demanded : List (Option Area) → Demand → List (Option Area)
demanded hulls d = slice_set hulls d.stage (grown_by (slice_index_or hulls d.stage None) d.area)

abbrev pub demanded_all : List (Option Area) → List Demand → List (Option Area)
demanded_all hulls demands = fold demanded hulls demands

-- nothing is demanded yet
abbrev pub new_empty_boxes : List Stage → List (Option Area)
new_empty_boxes stages = map (λ s. None) stages

-- a bounding box, intersected with the domain
abbrev pub cut_hull : List Stage → List (Option Area) → ℕ → Option Area
cut_hull stages hulls g = cut_to (slice_get stages g) (slice_index_or hulls g None)

-- what a stage demands is added, then what the next one does
abbrev pub walked_one : Target → List (Option Area) → ℕ → List (Option Area)
walked_one t hulls g = demanded_all hulls (demands_by t (cut_hull t.job.stages hulls) g)

abbrev pub walked : Target → List (Option Area) → List ℕ → List (Option Area)
walked t hulls gs = fold (walked_one t) hulls gs

-- a function other than the target, with its bounding box, intersected with the domain
abbrev pub numbered_hull : Target → List (Option Area) → ℕ → List (ℕ × Area)
numbered_hull t hulls g = if is_function_other_than_target t g then with_number g (cut_hull t.job.stages hulls g) else []
