-- Costs fit 64 bits: a domain has at most 32,769 rows and columns, and a job at most 65,536 stages, each of at most 65,536 tiles.
use Rattle.std.proofs.Common.{ℕ, ◌≡◌, ◌*◌, ◌<◌, ◌≤◌, arith, ◌^◌, inl, inr, Bool, true, false, ◌&&◌, Option, Some, None}
use Rattle.std.proofs.Common.{List, map, length, refl, sym, ap, ◌∙◌, subst}
use Rattle.std.specs.Prelude.{All, Contains, slice_get, if◌then◌else◌}
use Rattle.std.specs.List.{sum, range_with_len}
use Rattle.std.specs.Option.{option_map_or}
use Rattle.std.proofs.Math.Nat.{mul-le-mul, mul-le-mul_right}
use Rattle.std.proofs.lemmas.Bool.{eqb-true}
use Rattle.std.proofs.lemmas.Bool.Decides.{Decides-eqb}
use Rattle.std.proofs.lemmas.Int.{ints}
use Rattle.std.proofs.lemmas.List.{length-map}
use Rattle.std.proofs.lemmas.List.Elements.{All-weaker, All-contains, All-contains_itself}
use Rattle.std.proofs.lemmas.List.FromFn.{length-range_with_len}
use Rattle.std.proofs.lemmas.List.Sums.{sum-map, sum_by-le}
use Rattle.std.proofs.lemmas.Map.Made.{IsDistinct-from_AllPairs}
use Rattle.std.proofs.lemmas.Map.Steps.{length-le_from_distinct_below}
use Rattle.std.proofs.lemmas.Map.Views.{Contains-from_any}
use Rattle.domains.specs.Area.{IsArea, IsSubarea, point_count}
use Rattle.domains.specs.Span.{len_of}
use Rattle.domains.specs.Tiles.{tile_rows, tile_cols, tile_area, tiles_of}
use Rattle.domains.specs.declared.area.Area.{Area}
use Rattle.domains.specs.declared.grid.Grid.{Grid}
use Rattle.domains.proofs.Lengths.{len_is}
use Rattle.domains.proofs.PairLists.{length-pairs}
use Rattle.job.specs.Pipeline.{Stage, Pipeline, rank_of}
use Rattle.job.specs.Readers.{grid_at}
use Rattle.job.specs.WellFormed.{IsStage, IsJob}
use Rattle.job.proofs.Solving.{ranked_is}
use Rattle.tile_boxes.specs.Demands.{hull_of_all, areas_of}
use Rattle.tile_boxes.specs.Costs.{scratch, points}
use Rattle.tile_boxes.specs.Order.{order_stages_by_rank}
use Rattle.tile_boxes.specs.Schedules.{is_inlined}
use Rattle.tile_boxes.specs.Targets.{Target, IsTarget, all_demands_by, cut_to, is_function_other_than_target, box}
use Rattle.tile_boxes.specs.Tallies.{list_tile_areas, over, count_points_of_inlined_stage_or_zero, points_over}
use Rattle.tile_boxes.proofs.BoxesFollowTheRule.{box_follows}
use Rattle.tile_boxes.proofs.BoxesLieInDomains.{box_inside}
use Rattle.tile_boxes.proofs.CostsAddUp.{scratch_is, points_is, areas_are}
use Rattle.tile_boxes.proofs.OrderHasEachStage.{order_pairs, order_has}
use Rattle.tile_boxes.proofs.TilesAreTargets.{gridded}

-- ---- one area

abbrev pub most_box : ℕ
most_box = 1073807361

-- an area of a stage's domain
pub area_small : (job : Pipeline) (s : Stage) (a : Area) → IsStage job s → IsArea a → IsSubarea a s.domain → point_count a ≤ most_box
area_small job s a stage is inside =
    let rows = is.rows in
    let cols = is.cols in
    let rows_ordered = rows.ordered in
    let cols_ordered = cols.ordered in
    let first = inside a.rows.lo a.cols.lo ((omega (arith, ints), rows_ordered), (omega (arith, ints), cols_ordered)) in
    let last = inside a.rows.hi a.cols.hi ((rows_ordered, omega (arith, ints)), (cols_ordered, omega (arith, ints))) in
    let row_low = first.0.0 in
    let col_low = first.1.0 in
    let row_high = last.0.1 in
    let col_high = last.1.1 in
    let row_least = stage.rows.least in
    let row_most = stage.rows.most in
    let col_least = stage.cols.least in
    let col_most = stage.cols.most in
    let height : len_of a.rows ≤ 32769 = omega (arith, ints, len_is a.rows rows) in
    let width : len_of a.cols ≤ 32769 = omega (arith, ints, len_is a.cols cols) in
    let product : len_of a.rows * len_of a.cols ≤ 32769 * 32769 = mul-le-mul height width in
    omega arith

module _ (t : Target) (job : IsJob t.job) where
  pub box_small : (g : ℕ) → option_map_or point_count (box t g) 0 ≤ most_box
  box_small g = by (box t g) refl (slice_get t.job.stages g) refl
    where
      by : (o : Option Area) → box t g ≡ o → (p : Option Stage) → slice_get t.job.stages g ≡ p → option_map_or point_count o 0 ≤ most_box
      by None is p there = omega arith
      by (Some a) is (Some s) there =
          let inside = box_inside t g s a job there is in
          area_small t.job s a (job.stages g s there) inside.0 inside.1
      by (Some a) is None there =
          let none : None ≡ Some a = sym (box_follows t g (ranked_is t.job job)
          ∙ ap (λ (p : Option Stage). cut_to p (hull_of_all (areas_of g (all_demands_by t (box t))))) there) ∙ is in
          absurd (cc)

  inner_small : (g : ℕ) → count_points_of_inlined_stage_or_zero t g ≤ most_box
  inner_small g = by (is_inlined t.inlining g && is_function_other_than_target t g)
    where
      by : (b : Bool) → (if b then option_map_or point_count (box t g) 0 else 0) ≤ most_box
      by true = box_small g
      by false = omega arith

-- ---- the stages of a target

-- dependence order has each stage at most once
order_short : (stages : List Stage) → length (order_stages_by_rank stages) ≤ length stages
order_short stages =
    length-le_from_distinct_below (order_stages_by_rank stages) (length stages)
    (IsDistinct-from_AllPairs Decides-eqb (order_stages_by_rank stages) (λ i j d low high same.
    elim (order_pairs stages i j d low high) [
      | inl before ↦ absurd (let e = ap (rank_of stages) same in omega (arith, before, e))
      | inr before ↦ absurd (let less = before.1 in omega (arith, less, same))
    ]))
    (λ q found. (order_has stages q).0 (Contains-from_any eqb-true q (order_stages_by_rank stages) found))

-- at most so many terms, none of them more than this
pub sum_small : {X : Type 0} → (f : X → ℕ) (m n : ℕ) (xs : List X) → ((x : X) → Contains xs x → f x ≤ m) → length xs ≤ n
    → sum (map f xs) ≤ n * m
sum_small f m n xs each few =
    let all : All (λ x. f x ≤ m) xs = All-weaker (Contains xs) (λ x. f x ≤ m) each xs (All-contains_itself xs) in
    omega (arith, sum-map f xs, sum_by-le f m xs all, mul-le-mul_right m few)

module _ (t : Target) (job : IsJob t.job) where
  pub scratch_small : scratch t ≤ 65536 * most_box
  scratch_small =
      let few = job.few_stages in
      let short : length (order_stages_by_rank t.job.stages) ≤ 65536 = omega (arith, order_short t.job.stages, few) in
      omega (arith, scratch_is t, sum_small (count_points_of_inlined_stage_or_zero t) most_box 65536 (order_stages_by_rank t.job.stages) (λ g there. inner_small t job g) short)

  pub points_small : IsTarget t → points t ≤ 65537 * most_box
  points_small target =
      omega (
        arith,
        points_is t,
        scratch_small,
        area_small t.job target.owner t.region (job.stages t.stage target.owner target.there) target.area target.inside,
      )

-- ---- the tiles of a stage

pub areas_few : (job : Pipeline) (g : ℕ) (grid : Grid) → IsJob job → grid_at job g ≡ Some grid → length (list_tile_areas grid) ≤ 65536
areas_few job g grid is there =
    let of = gridded job g grid there in
    let few : tile_rows grid * tile_cols grid ≤ 65536 =
    subst (λ (d : Grid). tile_rows d * tile_cols d ≤ 65536) of.is ((is.stages g of.stage of.there).tiles of.tiles) in
    let counted : length (list_tile_areas grid) ≡ tile_rows grid * tile_cols grid = ap length (sym (areas_are grid))
    ∙ length-map (tiles_of grid) (λ x. tile_area grid x.0 x.1)
    ∙ length-pairs (range_with_len 0 (tile_rows grid)) (range_with_len 0 (tile_cols grid))
    ∙ (λ i. length-range_with_len 0 (tile_rows grid) i * length-range_with_len 0 (tile_cols grid) i) in
    omega arith

-- the cost of a stage over so few areas
pub cost_small : (t : Target) (areas : List Area) → IsJob t.job → All (λ a. IsTarget (over t a)) areas → length areas ≤ 65536
    → points_over t areas < 2 ^ 63
cost_small t areas job targets few =
    let each = sum_small (λ a. points (over t a)) (65537 * most_box) 65536 areas
    (λ a there. points_small (over t a) job (All-contains (λ x. IsTarget (over t x)) areas a targets there)) few in
    omega arith
