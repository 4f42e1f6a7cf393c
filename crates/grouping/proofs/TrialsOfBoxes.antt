-- Where the boxes of a function in all tiles of its group are known, what they add to cost and scratch memory.
use Rattle.std.proofs.Common.{ℕ, ◌+◌, ◌*◌, ◌<◌, ◌≡◌, pos, Option, None, List, [], ◌∷◌, ◌++◌, ◌^◌, map, take, length, get_or}
use Rattle.std.proofs.Common.{arith, sym, ap, ◌∙◌}
use Rattle.std.specs.Prelude.{Bool, Some, false, slice_get, slice_index_or}
use Rattle.std.specs.List.{sum}
use Rattle.std.proofs.lemmas.Nat.{mul-add-lt}
use Rattle.std.proofs.lemmas.List.{take_all, take_more, get_or-map, length-map}
use Rattle.std.proofs.lemmas.List.Sums.{sum-map, sum_by_more, sum_by-take-le}
use Rattle.std.proofs.lemmas.Option.{slice_get-get_or, slice_get_within}
use Rattle.domains.specs.Span.{Ends}
use Rattle.domains.specs.declared.area.Area.{Area}
use Rattle.job.specs.Pipeline.{Pipeline}
use Rattle.job.specs.WellFormed.{IsJob}
use Rattle.tile_boxes.specs.Targets.{box, target_over}
use Rattle.tile_boxes.specs.Costs.{scratch}
use Rattle.tile_boxes.specs.Schedules.{is_inlined}
use Rattle.grouping.specs.Greedy.{Grouping}
use Rattle.grouping.specs.inside.Standings.{areas_at, boxes_by_tile, AllStand}
use Rattle.grouping.specs.inside.Trials.{count_box_points, find_kept_scratch, scratch_with, IsTrialOf, AreTaken, IsRowOfBoxes}
use Rattle.tile_boxes.specs.Tallies.{area_of}
use Rattle.grouping.specs.inside.Crossed.{crossed}
use Rattle.grouping.specs.declared.boxes.GroupBoxes.TheVariants.{Crossed}
use Rattle.grouping.specs.declared.boxes.SeparableBoxes.{SeparableBoxes}
use Rattle.grouping.specs.declared.trial.TrialPoints.{TrialPoints}
use Rattle.grouping.proofs.CrossedLists.{length-by_rows, at_row}
use Rattle.grouping.specs.declared.standing.StageStatus.{StageStatus}
use Rattle.tile_boxes.proofs.CostsAreSmall.{box_small, scratch_small}
use Rattle.grouping.proofs.TrialsAreSmall.{boxes_small}
use Rattle.grouping.proofs.KeptIsBox.{kept_is_scratch}

abbrev nowhere : Area
nowhere = record { rows = record { lo = pos 0; hi = pos 0 }; cols = record { lo = pos 0; hi = pos 0 } }

-- ---- rows of tiles

-- rows and columns that make all boxes are as many as the tiles
pub counted : (job : Pipeline) (inlining : List Bool) (h g : ℕ) (rows cols : List Ends) → crossed rows cols ≡ boxes_by_tile job inlining h g
    → length rows * length cols ≡ length (areas_at job h)
counted job inlining h g rows cols boxes =
    sym (length-by_rows (λ r c. Some (area_of r c)) rows cols) ∙ ap length boxes
    ∙ length-map (areas_at job h) (λ a. box (target_over job inlining h a) g)

pub row_of_boxes : (job : Pipeline) (inlining : List Bool) (h g : ℕ) (rows cols : List Ends) (i : ℕ) (r : Ends)
    → crossed rows cols ≡ boxes_by_tile job inlining h g → slice_get rows i ≡ Some r
    → IsRowOfBoxes job inlining h g (i * length cols) r cols
row_of_boxes job inlining h g rows cols i r boxes at j c at' =
    let all = counted job inlining h g rows cols boxes in
    let below = mul-add-lt i (length cols) j (length rows) (slice_get_within rows i r at) (slice_get_within cols j c at') in (
      omega arith,
      ap (λ xs. slice_index_or xs (i * length cols + j) None) (sym boxes)
          ∙ at_row (λ r c. Some (area_of r c)) rows cols i j r c None at at',
    )

-- where all tiles are taken, the trial is made
pub all_taken : (job : Pipeline) (inlining : List Bool) (h g n : ℕ) (t : TrialPoints) (spans : SeparableBoxes)
    → crossed spans.rows.items spans.cols.items ≡ boxes_by_tile job inlining h g → n ≡ length spans.rows.items * length spans.cols.items
    → AreTaken job inlining h g n t
    → IsTrialOf job inlining h g (record { boxes = Crossed spans; added = t.added; scratch = t.scratch })
all_taken job inlining h g n t spans boxes count taken =
    let all = counted job inlining h g spans.rows.items spans.cols.items boxes in
    let boxed = length-map (areas_at job h) (λ a. box (target_over job inlining h a) g) in
    let held = length-map (areas_at job h)
    (λ a. scratch (target_over job inlining h a) + count_box_points (box (target_over job inlining h a) g)) in
    record {
      boxes = boxes;
      added = taken.added ∙ ap (λ xs. sum (map count_box_points xs)) (take_all n (boxes_by_tile job inlining h g) (omega arith));
      in_scratch = taken.in_scratch ∙ take_all n (scratch_with job inlining h g) (omega arith);
    }

-- ---- one tile more

module _ (job : Pipeline) (inlining : List Bool) (h g k : ℕ) (low : k < length (areas_at job h)) where
  abbrev inside : Area → Option Area
  inside a = box (target_over job inlining h a) g

  abbrev here : Area
  here = get_or (areas_at job h) k nowhere

  box_here : slice_index_or (boxes_by_tile job inlining h g) k None ≡ inside here
  box_here = get_or-map inside (areas_at job h) k nowhere None low

  pub one_more_added : (added points : ℕ) → added ≡ sum (map count_box_points (take k (boxes_by_tile job inlining h g)))
      → points ≡ count_box_points (slice_index_or (boxes_by_tile job inlining h g) k None)
      → added + points ≡ sum (map count_box_points (take (k + 1) (boxes_by_tile job inlining h g)))
  one_more_added added points was is =
      let boxes = boxes_by_tile job inlining h g in
      let inner : k < length boxes = omega (arith, length-map (areas_at job h) inside, low) in
      (λ i. (was ∙ sum-map count_box_points (take k boxes)) i + is i) ∙ sym (sum_by_more count_box_points boxes k None inner)
      ∙ sym (sum-map count_box_points (take (k + 1) boxes))

  pub added_small : (added points : ℕ) → IsJob job → added ≡ sum (map count_box_points (take k (boxes_by_tile job inlining h g)))
      → points ≡ count_box_points (slice_index_or (boxes_by_tile job inlining h g) k None) → added + points < 2 ^ 62
  added_small added points valid was is =
      let boxes = boxes_by_tile job inlining h g in
      omega (
        arith,
        one_more_added added points was is,
        sum-map count_box_points (take (k + 1) boxes),
        sum_by-take-le count_box_points boxes (k + 1),
        sum-map count_box_points boxes,
        boxes_small job inlining h g valid,
      )

  module _ (c : Grouping) (standings : List StageStatus) (stand : AllStand job c standings) (there : h < length job.stages)
      (stored : is_inlined c.inlining h ≡ false) (same : c.inlining ≡ inlining) where
    kept : find_kept_scratch (slice_get standings h) k ≡ scratch (target_over job inlining h here)
    kept =
        kept_is_scratch job c standings h k here stand there stored (slice_get-get_or (areas_at job h) k nowhere low)
        ∙ ap (λ fs. scratch (target_over job fs h here)) same

    pub held_small : (n points : ℕ) → IsJob job → n ≡ find_kept_scratch (slice_get standings h) k
        → points ≡ count_box_points (slice_index_or (boxes_by_tile job inlining h g) k None) → n + points < 2 ^ 62
    held_small n points valid was is =
        omega (
          arith,
          was ∙ kept,
          is ∙ ap count_box_points box_here,
          scratch_small (target_over job inlining h here) valid,
          box_small (target_over job inlining h here) valid g,
        )

    pub one_more_held : (n points : ℕ) (before after : List ℕ) → before ≡ take k (scratch_with job inlining h g)
        → n ≡ find_kept_scratch (slice_get standings h) k
        → points ≡ count_box_points (slice_index_or (boxes_by_tile job inlining h g) k None) → after ≡ before ++ (n + points) ∷ []
        → after ≡ take (k + 1) (scratch_with job inlining h g)
    one_more_held n points before after were was is more =
        let f : Area → ℕ = λ a. scratch (target_over job inlining h a) + count_box_points (inside a) in
        let inner : k < length (scratch_with job inlining h g) = omega (arith, length-map (areas_at job h) f, low) in
        let last : n + points ≡ get_or (scratch_with job inlining h g) k 0 = (λ i. (was ∙ kept) i + (is ∙ ap count_box_points box_here) i)
        ∙ sym (get_or-map f (areas_at job h) k nowhere 0 low) in
        more ∙ (λ i. were i ++ last i ∷ []) ∙ sym (take_more (scratch_with job inlining h g) k 0 inner)
