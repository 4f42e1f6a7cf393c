-- The step at a place of a layout: its range, what it finds, and what is computed after it.
use Rattle.std.proofs.Common.{arith, true, ℕ, suc, ℤ, ◌≡◌, ◌<◌, ◌≤◌, ◌+◌, inl, inr, length, map, List, Some, slice_get, slice_index_or, ap, sym, ◌∙◌, subst}
use Rattle.std.proofs.Common.{pos, ◌-◌}
use Rattle.std.proofs.lemmas.List.{length-map}
use Rattle.std.proofs.lemmas.Option.{slice_get_within, get_or_from_slice_get}
use Rattle.domains.specs.Area.{IsArea, point_count}
use Rattle.tile_boxes.specs.Schedules.{is_function_stage}
use Rattle.domains.proofs.Places.{all_at}
use Rattle.tile_boxes.specs.Costs.{inner_steps}
use Rattle.tile_boxes.specs.Targets.{Target, target_over}
use Rattle.job.specs.Pipeline.{Pipeline}
use Rattle.job.specs.WellFormed.{IsJob}
use Rattle.overlap_tiles.specs.declared.steps.TileStep.{TileStep}
use Rattle.overlap_tiles.specs.Plans.{TileLayout, IsLayout, IsTileLayout}
use Rattle.overlap_tiles.specs.Views.{step_view}
use Rattle.row_kernels.proofs.Places.{place_below}
use Rattle.scratch.specs.Parts.{with_part}
use Rattle.scratch.proofs.PartLemmas.{length-with_part, with_part-before, with_part-within, with_part-behind}
use Rattle.tile_eval.specs.Raster.{raster, place_of}
use Rattle.tile_eval.specs.Rows.{at}
use Rattle.tile_eval.proofs.Rasters.{raster_len, raster_at}
use Rattle.one_tile.specs.declared.scratch_view.TileScratchView.{TileScratchView}
use Rattle.tile_sources.specs.KnownTiles.{KnownTiles}
use Rattle.one_tile.specs.Local.{local_value}
use Rattle.one_tile.specs.Prepared.{IsInnerStep, IsBoxed, IsPreparedOn}
use Rattle.one_tile.specs.Runs.{NeedsGiven, IsSomeLayout}
use Rattle.one_tile.specs.inside.Steps.{AreComputed, AreLent, IsPreparedBeside}
use Rattle.one_tile.proofs.LayoutsPrepare.{own_layout, inner_function, inner_is_area, inner_prepared, layout_ready}
use Rattle.one_tile.proofs.StepsRun.{HasRange, steps_long, step_at, range_at, lies_off, finds, computed_next}

module _ (job : Pipeline) (l : TileLayout) (given : KnownTiles) (some : IsSomeLayout job l) (steps : List TileStep)
    (steps_are : map step_view steps ≡ l.steps) (ranges : List (ℕ × ℕ)) (ranges_are : ranges ≡ l.ranges) (place : ℕ)
    (there : suc place < length l.steps) (step : TileStep) (step_is : step ≡ slice_index_or steps place step) where
  own : IsTileLayout job l.inlining some.stage some.row some.col l
  own = own_layout job some.inlining given l some.stage some.row some.col some.layout

  abbrev target : Target
  target = target_over job l.inlining some.stage own.area

  is : IsLayout target l
  is = own.layout.layout

  pub here : IsInnerStep l place step.stage step.area
  here = (
    there,
    ap (λ (ss : List (ℕ × _)). slice_get ss place) (sym steps_are)
        ∙ step_at steps place step (omega (arith, there, length-map steps step_view, ap length steps_are)) step_is,
  )

  range : HasRange l place step.area
  range = range_at target l given is place step.stage step.area here

  abbrev pub mine : ℕ × ℕ
  mine = slice_index_or ranges place (0, 0)

  mine_is : mine ≡ range.range
  mine_is = get_or_from_slice_get ranges place range.range (0, 0) (ap (λ (rs : List (ℕ × ℕ)). slice_get rs place) ranges_are ∙ range.there)

  pub mine_there : slice_get l.ranges place ≡ Some mine
  mine_there = range.there ∙ ap Some (sym mine_is)

  pub mine_len : mine.1 ≡ point_count step.area
  mine_len = ap (λ (r : ℕ × ℕ). r.1) mine_is ∙ range.len

  pub mine_within : mine.0 + mine.1 ≤ l.scratch
  mine_within = subst (λ (r : ℕ × ℕ). r.0 + r.1 ≤ l.scratch) (sym mine_is) range.within

  pub in_ranges : place < length ranges
  in_ranges = slice_get_within ranges place mine (ap (λ (rs : List (ℕ × ℕ)). slice_get rs place) ranges_are ∙ mine_there)

  module _ (good : IsJob job) (needs : NeedsGiven given l.needs) where
    pub step_area : IsArea step.area
    step_area = inner_is_area job l.inlining given l some.stage some.row some.col own place step.stage step.area here good needs

    pub step_function : is_function_stage job step.stage ≡ true
    step_function = inner_function job l.inlining given l some.stage some.row some.col own place step.stage step.area here good needs

    module _ (memory : List ℤ) (size : l.scratch ≤ length memory) (done : AreComputed job l given memory place) where
      pub step_prepared : IsPreparedBeside job l given memory mine.0 step.stage step.area
      step_prepared boxes lent' end =
          inner_prepared job l.inlining given l some.stage some.row some.col own place step.stage step.area here good needs
          (IsBoxed job l given boxes)
          (finds target l given is memory boxes mine.0 place lent' size (omega (arith, there)) done (λ p r before read at.
          elim (lies_off target l given is p place place r mine before (omega arith) read at mine_there) [
            | inl low ↦ inl low
            | inr high ↦ inr (omega (arith, end, high, mine_len))
          ]))

      -- once the range has the step's values, and nothing else differs
      pub step_done : (new : List ℤ)
          → new ≡ with_part memory mine.0 (mine.0 + point_count step.area)
          (raster step.area (local_value job l.inlining given step.stage))
          → (length new ≡ length memory) × AreComputed job l given new (place + 1)
      step_done new now =
          let values : List ℤ = raster step.area (local_value job l.inlining given step.stage) in
          let long : length values ≡ mine.0 + point_count step.area - mine.0 = omega (arith, raster_len step.area (local_value job l.inlining given step.stage)) in
          let ordered : mine.0 ≤ mine.0 + point_count step.area = omega arith in
          let inside : mine.0 + point_count step.area ≤ length memory = omega (arith, mine_len, mine_within, size) in (
            ap length now ∙ length-with_part memory mine.0 (mine.0 + point_count step.area) ordered inside values long,
            computed_next target l given is memory new place step.stage step.area here mine mine_there done
                (λ n less. ap (λ (xs : List ℤ). at xs n) now
                ∙ with_part-before memory mine.0 (mine.0 + point_count step.area) ordered inside values long n (pos 0) less)
                (λ n more. ap (λ (xs : List ℤ). at xs n) now
                ∙ with_part-behind memory mine.0 (mine.0 + point_count step.area) ordered inside values long n (pos 0) (omega (arith, mine_len, more)))
                (λ r c holds.
                let n : ℕ = place_of step.area r c in
                let below = place_below step.area r c holds in
                let back : mine.0 + n - mine.0 ≡ n = omega arith in
                ap (λ (xs : List ℤ). at xs (mine.0 + n)) now
                ∙ with_part-within memory mine.0 (mine.0 + point_count step.area) ordered inside values long (mine.0 + n) (pos 0) (omega arith)
                (omega (arith, below))
                ∙ ap (at values) back ∙ raster_at step.area (local_value job l.inlining given step.stage) r c holds),
          )

-- ---- after all steps

module _ (job : Pipeline) (l : TileLayout) (given : KnownTiles) (g i j : ℕ) (at_tile : IsTileLayout job l.inlining g i j l) (good : IsJob job)
    (needs : NeedsGiven given l.needs) (memory : List ℤ) (size : l.scratch ≤ length memory) (boxes : TileScratchView)
    (before : boxes.before.now ≡ memory) (behind : length boxes.behind.now ≡ 0) (end : boxes.end ≡ length memory)
    (done : (last : ℕ) → suc last ≡ length l.steps → AreComputed job l given memory last) where
  abbrev of_tile : Target
  of_tile = target_over job l.inlining g at_tile.area

  laid : IsLayout of_tile l
  laid = at_tile.layout.layout

  all_lent : AreLent memory boxes (length memory)
  all_lent = record {
    before_len = ap length before;
    before = λ n less. ap (λ (xs : List ℤ). at xs n) before;
    behind_len = omega (arith, behind, end);
    behind = λ n more less. absurd (omega (arith, more, less, end));
  }

  -- all that the tile reads is at hand in scratch memory, of which nothing is written any more
  pub all_prepared : IsPreparedOn job l given boxes g i j
  all_prepared area at_area =
      let last : ℕ = length (inner_steps of_tile) in
      let long : suc last ≡ length l.steps = omega (arith, steps_long of_tile l given laid) in
      layout_ready job l.inlining given l g i j at_tile good needs (IsBoxed job l given boxes) last long
      (finds of_tile l given laid memory boxes (length memory) last all_lent size (omega (arith, long)) (done last long)
      (λ p range less read there.
      let within = all_at (λ (r : ℕ × ℕ). r.0 + r.1 ≤ l.scratch) l.ranges p range laid.ranges.within there in
      inl (omega (arith, within, size))))
      area at_area
