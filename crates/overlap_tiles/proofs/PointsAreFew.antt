-- How many points areas have.
use Rattle.std.proofs.Common.{ℕ, ◌≡◌, ◌+◌, ◌*◌, ◌^◌, ◌<◌, ◌≤◌, arith, List, length, map, drop, get_or, ap}
use Rattle.std.specs.Prelude.{fold}
use Rattle.std.proofs.lemmas.List.{at_drop_more}
use Rattle.std.proofs.lemmas.List.Sums.{sum_by_from}
use Rattle.std.proofs.Math.Nat.{mul-le-mul}
use Rattle.domains.specs.declared.area.Area.{Area}
use Rattle.domains.specs.Span.{len_of}
use Rattle.domains.specs.Area.{IsArea, point_count}
use Rattle.domains.proofs.PartsOfSpans.{len_small}
use Rattle.overlap_tiles.specs.declared.steps.TileStep.{TileStep}
use Rattle.overlap_tiles.specs.Views.{step_view}

pub few_points : (a : Area) → IsArea a → point_count a < 2 ^ 43
few_points a h =
    let product : len_of a.rows * len_of a.cols ≤ 2097153 * 2097153 = mul-le-mul (len_small a.rows h.rows) (len_small a.cols h.cols) in
    omega arith

-- the points of what is left of the steps, and of those before
abbrev pub points_from : ℕ → List TileStep → ℕ
points_from total steps = fold (λ a n. a + n) total (map (λ s. point_count s.1) (map step_view steps))

-- a sum is not below what it begins with
begins_below : (a : ℕ) (xs : List ℕ) → a ≤ fold (λ s x. s + x) a xs
begins_below a xs = omega (arith, sum_by_from (λ x. x) a xs)

-- the points so far and those of the next step are not more than all
pub next_below : (steps : List TileStep) (i : ℕ) (s : TileStep) (total all : ℕ) → i < length steps → s ≡ get_or steps i s
    → points_from total (drop i steps) ≡ all → total + point_count s.area ≤ all
next_below steps i s total all within is sum =
    let next : points_from total (drop i steps) ≡ points_from (total + point_count (get_or steps i s).area)
    (drop (i + 1) steps) = at_drop_more (points_from total) steps i s within in
    let here : point_count s.area ≡ point_count (get_or steps i s).area = ap (λ (x : TileStep). point_count x.area) is in
    omega (
      arith,
      begins_below (total + point_count (get_or steps i s).area) (map (λ x. point_count x.1) (map step_view (drop (i + 1) steps))),
    )
