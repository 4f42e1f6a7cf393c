use Rattle.std.proofs.Common.{ℕ, ◌+◌, ◌≤◌, ◌++◌, ◌∷◌, [], List, Bool, map, ap, ◌∙◌, subst, sym, refl}
use Rattle.std.specs.Prelude.{◌≡◌, ◌<◌, All, filter, length}
use Rattle.std.specs.List.{flat_map, range_with_len}
use Rattle.std.proofs.lemmas.List.{map_push}
use Rattle.domains.specs.declared.area.Area.{Area}
use Rattle.job.specs.Kept.{pipeline_in}
use Rattle.tile_boxes.specs.Schedules.{is_inlined}
use Rattle.tile_boxes.specs.Costs.{points_in, inner_steps, most_scratch}
use Rattle.overlap_tiles.specs.declared.steps.TileStep.{TileStep}
use Rattle.overlap_tiles.specs.inside.Made.{stage_needs, list_last_reader_places_by_stage, ranges_by, size_of}
use Rattle.overlap_tiles.specs.Views.{step_view}
use Rattle.overlap_tiles.proofs.Lists.{All-from_contains}
use Rattle.overlap_tiles.proofs.MadeIsLayout.{is_layout}
use Rattle.overlap_tiles.proofs.RangesHaveRoom.{inner_there}
use Rattle.overlap_tiles.proofs.layout.TileLayout.from_boxes.Goals as goal
use Rattle.tile_boxes.specs.Targets.{target_over}

pub returns-clause-layout : goal.returns-clause-layout
returns-clause-layout c =
    let job = pipeline_in c.args.job.now in
    let inlining : List Bool = c.args.schedule.now.inlining in
    let t = target_over job inlining c.args.target.stage c.args.target.area in
    let inner : List (ℕ × Area) = map step_view c.in_ok-steps.steps.items in
    let kept = c.in_ok-steps.ensures ∙ ap (λ (bs : List (ℕ × Area)). filter (λ s. is_inlined inlining s.0) bs) c.requires.boxes in
    let number = c.in-Some.ensures.number ∙ ap (λ (ss : List TileStep). points_in (map step_view ss)) c.deref.ensures.value in
    let few = c.in-Some.ensures.few in
    record {
      layout = is_layout t _ (record {
        inner = inner;
        kept = kept;
        needs = c.in_ok-needs.ensures
            ∙ ap (λ (bs : List (ℕ × Area)). flat_map (stage_needs job inlining bs) (range_with_len 0 (length job.stages))) c.requires.boxes;
        steps = ap (map step_view) c.in_ok-all.ensures ∙ map_push step_view c.in_ok-steps.steps.items c.args.target;
        points = ap (λ (n : ℕ). n + c.count_points_of_stage_area.result) number ∙ ap (λ (n : ℕ). points_in inner + n) c.count_points_of_stage_area.ensures.number;
        ranges = c.in_ok-ranges.ensures.ranges
            ∙ ap (λ (ss : List TileStep). ranges_by (list_last_reader_places_by_stage job (map step_view ss ++ step_view c.args.target ∷ [])) (map step_view ss))
            c.deref-3.ensures.value;
        scratch = c.find_size_of_scratch_ranges-scratch.ensures ∙ ap size_of c.deref-4.ensures.value;
        inlining = refl;
      });
      fits = subst (λ (n : ℕ). n ≤ most_scratch) (number ∙ ap points_in kept) few;
    }

pub list_step_places_by_stage-requires : goal.list_step_places_by_stage-requires
list_step_places_by_stage-requires c =
    let job = pipeline_in c.args.job.now in
    let t = target_over job c.args.schedule.now.inlining c.args.target.stage c.args.target.area in
    let kept : map step_view c.deref-2.result.now ≡ inner_steps t =
    ap (map step_view) c.deref-2.ensures.value ∙ c.in_ok-steps.ensures
    ∙ ap (λ (bs : List (ℕ × Area)). filter (λ s. is_inlined t.inlining s.0) bs) c.requires.boxes in
    subst (λ (ss : List (ℕ × Area)). All (λ s. s.0 < length job.stages) ss) (sym kept)
    (All-from_contains (λ s. s.0 < length job.stages) (inner_steps t) (inner_there t))
