-- What is added up of boxes that are kept fits 64 bits.
use Rattle.std.proofs.Common.{ℕ, ◌≡◌, ◌+◌, ◌<◌, ◌≤◌, arith, ◌^◌, inl, inr, Bool, true, false, ◌&&◌, not, Option, Some, None}
use Rattle.std.proofs.Common.{List, [], ◌∷◌, ◌++◌, map, length, refl, ap, ◌∙◌, subst}
use Rattle.std.specs.Prelude.{Contains, slice_get, if◌then◌else◌}
use Rattle.std.specs.List.{sum, sum_by}
use Rattle.std.specs.Option.{option_map_or}
use Rattle.std.proofs.lemmas.Bool.{and_parts}
use Rattle.std.proofs.lemmas.List.{length-map}
use Rattle.std.proofs.lemmas.List.Elements.{Contains-append_right}
use Rattle.std.proofs.lemmas.List.Sums.{sum-map, sum_by-append, sum_by-cons}
use Rattle.domains.specs.declared.area.Area.{Area}
use Rattle.domains.specs.declared.grid.Grid.{Grid}
use Rattle.domains.proofs.PairLists.{Contains-here, Contains-cases}
use Rattle.job.specs.Pipeline.{Stage, Pipeline}
use Rattle.job.specs.Answers.{grid_of, has_tiles}
use Rattle.job.specs.Readers.{stage_grid, grid_at}
use Rattle.job.specs.WellFormed.{IsJob}
use Rattle.tile_boxes.specs.Costs.{cost_of, stage_cost}
use Rattle.grouping.specs.Greedy.{cost_or_zero}
use Rattle.tile_boxes.specs.Schedules.{is_inlined}
use Rattle.tile_boxes.specs.Targets.{box, target_over}
use Rattle.tile_boxes.specs.Tallies.{list_tile_areas, over_domain}
use Rattle.grouping.specs.inside.Standings.{areas_at, boxes_by_tile}
use Rattle.grouping.specs.inside.Trials.{count_box_points}
use Rattle.tile_boxes.proofs.CostsAddUp.{cost_is, tiles_in_schedules_are_targets}
use Rattle.tile_boxes.proofs.CostsAreSmall.{most_box, box_small, sum_small, areas_few, cost_small}

pub areas_at_few : (job : Pipeline) (g : ℕ) → IsJob job → length (areas_at job g) ≤ 65536
areas_at_few job g is = by (grid_at job g) refl
  where
    by : (o : Option Grid) → grid_at job g ≡ o → length (option_map_or list_tile_areas o []) ≤ 65536
    by None there = omega arith
    by (Some grid) there = areas_few job g grid is there

from_map : {X Y : Type 0} → (f : X → Y) (xs : List X) (y : Y) → Contains (map f xs) y → (x : X) × Contains xs x × (f x ≡ y)
from_map f [] y h = absurd (omega (arith, h.1))
from_map f (z ∷ zs) y h = elim (Contains-cases (f z) (map f zs) y h) [
  | inl e ↦ (z, Contains-here z zs, e)
  | inr k ↦ (let rest = from_map f zs y k in (rest.0, Contains-append_right (z ∷ []) zs rest.0 rest.1, rest.2))
]

-- the points of the boxes of a stage in all tiles of another
pub boxes_small : (job : Pipeline) (inlining : List Bool) (h g : ℕ) → IsJob job
    → sum (map count_box_points (boxes_by_tile job inlining h g)) < 2 ^ 62
boxes_small job inlining h g is =
    let f : Area → Option Area = λ a. box (target_over job inlining h a) g in
    let each = sum_small count_box_points most_box 65536 (map f (areas_at job h))
    (λ o there.
    let from = from_map f (areas_at job h) o there in
    subst (λ (x : Option Area). count_box_points x ≤ most_box) from.2 (box_small (target_over job inlining h from.0) is g))
    (let same = length-map (areas_at job h) f in let few = areas_at_few job h is in omega arith) in
    omega arith

-- what is in a list so far, and the next of it, is not more than all
pub next_small : {X : Type 0} → (f : X → ℕ) (xs ys all : List X) (x : X) → xs ++ x ∷ ys ≡ all → sum (map f xs) + f x ≤ sum (map f all)
next_small f xs ys all x is =
    omega (arith, sum-map f all, sum-map f xs, ap (sum_by f) is, sum_by-append f xs (x ∷ ys), sum_by-cons f x ys)

-- what a stage costs
pub kept_small : (job : Pipeline) (inlining : List Bool) (g : ℕ) → IsJob job → cost_or_zero job inlining g < 2 ^ 63
kept_small job inlining g is = by (slice_get job.stages g) refl
  where
    pick : (s : Stage) → slice_get job.stages g ≡ Some s → (b : Bool) → (has_tiles s.body && not (is_inlined inlining g)) ≡ b
        → option_map_or (λ n. n) (if b then Some (cost_of job inlining g s) else None) 0 < 2 ^ 63
    pick s there true has =
        let small = cost_small (over_domain job inlining g s) (list_tile_areas (grid_of job s)) is
        (tiles_in_schedules_are_targets job inlining g s is there)
        (areas_few job g (grid_of job s) is (ap (stage_grid job) there
        ∙ ap (λ c. if c then Some (grid_of job s) else None) (and_parts (has_tiles s.body) (not (is_inlined inlining g)) has).0)) in
        omega (arith, cost_is job inlining g s, small)
    pick s there false has = omega arith

    by : (o : Option Stage) → slice_get job.stages g ≡ o → option_map_or (λ n. n) (stage_cost job inlining g o) 0 < 2 ^ 63
    by None there = omega arith
    by (Some s) there = pick s there (has_tiles s.body && not (is_inlined inlining g)) refl
