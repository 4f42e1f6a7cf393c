use Rattle.std.proofs.Common.{ℕ, ◌≡◌, ◌+◌, ◌≤◌, ◌++◌, ◌∷◌, [], List, map, drop, arith, sym, ap, ◌∙◌, subst}
use Rattle.std.proofs.lemmas.List.Elements.{All-weaker}
use Rattle.tile_boxes.specs.Costs.{points_in, most_scratch}
use Rattle.overlap_tiles.specs.Ranges.{LieWithin}
use Rattle.overlap_tiles.specs.Views.{step_view}
use Rattle.overlap_tiles.specs.declared.ranges.HeldRange.{HeldRange}
use Rattle.overlap_tiles.specs.declared.steps.TileStep.{TileStep}
use Rattle.overlap_tiles.specs.inside.Made.{held_by, held_after, laid, laid_of, range_of, ranges_by}
use Rattle.overlap_tiles.proofs.Gaps.{EndBy}
use Rattle.overlap_tiles.proofs.LaidApart.{ends_after, laid_more, laid_all, points_more}
use Rattle.overlap_tiles.proofs.RangesHaveRoom.{ranges_within}
use Rattle.overlap_tiles.proofs.ranges.assign_scratch_ranges.Goals as goal

pub loop-place-preserved : goal.loop-place-preserved
loop-place-preserved c =
    let steps : List TileStep = c.args.steps.now in
    let step = c.index-steps-place.result in
    let place = c.loop-place.place in
    let held : List HeldRange = c.loop-place.held.items in
    let lasts : List ℕ = c.args.lasts.now in
    let s : ℕ × ℕ = laid_of lasts (step_view step) in
    let number = c.count_points_of_stage_area-len.ensures.number in
    let last = c.look_up_last_reader_of_stage-last.ensures in
    let pair : (c.count_points_of_stage_area-len.result, c.look_up_last_reader_of_stage-last.result) ≡ s = λ i. (number i, last i) in
    let after : c.assign_scratch_range.new.held.items ≡ held_after place held s =
    c.in_ok-start.ensures.held ∙ ap (held_after place held) pair in
    let from = c.in_ok-start.ensures.start ∙ ap (λ (p : ℕ × ℕ). (held_by place held p).start) pair in
    let range : (c.in_ok-start.start, c.count_points_of_stage_area-len.result) ≡ range_of (held_by place held s) = λ i. (from i, number i) in
    let made : c.push.new.self.items ≡ c.loop-place.ranges.items ++ range_of (held_by place held s) ∷ [] =
    c.in_ok-push.ensures.items ∙ ap (λ (r : ℕ × ℕ). c.loop-place.ranges.items ++ r ∷ []) range in
    let few = c.loop-place.invariant.few in
    let room = few.2 in
    let more = points_more steps place step c.loop-place-test.true c.index-steps-place.is in
    record {
      ranges =
          (λ i. made i ++ map range_of (laid (place + 1) (after i) (map (laid_of lasts) (map step_view (drop (place + 1) steps)))))
          ∙ laid_more lasts steps place step held c.loop-place.ranges.items
          (ranges_by lasts (map step_view steps)) c.loop-place-test.true c.index-steps-place.is c.loop-place.invariant.ranges;
      few =
          (few.0 + s.0, subst (λ (hs : List HeldRange). EndBy (few.0 + s.0) hs) (sym after) (ends_after few.0 place held s few.1), omega arith);
    }

pub returns-clause-within : goal.returns-clause-within
returns-clause-within c =
    let lasts : List ℕ = c.args.lasts.now in
    let most = c.requires in
    subst (λ (rs : List (ℕ × ℕ)). LieWithin most_scratch rs)
    (sym (laid_all lasts c.args.steps.now c.loop-place.place c.loop-place.held.items c.loop-place.ranges.items
    (ranges_by lasts (map step_view c.args.steps.now)) c.loop-place-test.false c.loop-place.invariant.ranges))
    (All-weaker (λ r. r.0 + r.1 ≤ points_in (map step_view c.args.steps.now)) (λ r. r.0 + r.1 ≤ most_scratch) (λ r low. omega arith)
    (ranges_by lasts (map step_view c.args.steps.now)) (ranges_within lasts (map step_view c.args.steps.now)))
