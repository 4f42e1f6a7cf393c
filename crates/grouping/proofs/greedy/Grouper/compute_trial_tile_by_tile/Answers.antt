use Rattle.std.proofs.Common.{◌≡◌, ◌<◌, ◌+◌, ◌++◌, ◌∷◌, [], suc, ℕ, List}
use Rattle.std.proofs.Common.{Option, map, drop, length, get_or, arith, sym, ap, ◌∙◌, append_assoc}
use Rattle.std.specs.List.{sum, sum_by}
use Rattle.std.specs.Prelude.{slice_get, Some}
use Rattle.std.proofs.Math.Seq.{drop-cons}
use Rattle.std.proofs.lemmas.List.Sums.{sum-map, sum_by-append}
use Rattle.std.proofs.lemmas.Option.{slice_get_read}
use Rattle.domains.specs.declared.area.Area.{Area}
use Rattle.job.specs.Kept.{pipeline_in}
use Rattle.tile_boxes.specs.Targets.{box, target_over}
use Rattle.tile_boxes.specs.Costs.{scratch}
use Rattle.grouping.specs.Greedy.{find_common_group}
use Rattle.grouping.specs.inside.Standings.{areas_at, boxes_by_tile}
use Rattle.grouping.specs.inside.Trials.{grouping_of, count_box_points}
use Rattle.tile_boxes.proofs.CostsAreSmall.{box_small, scratch_small}
use Rattle.grouping.proofs.TrialsAreSmall.{boxes_small, next_small}
use Rattle.grouping.proofs.KeptIsBox.{kept_is_scratch}
use Rattle.grouping.proofs.InlinedStands.{group_is}
use Rattle.grouping.proofs.greedy.Grouper.compute_trial_tile_by_tile.Goals as goal

-- one element more is done
mapped_more : {X : Type 0} (f : Area → X) (done : List X) (after : List X) (tiles : List Area) (k : ℕ) (a : Area) (all : List X)
    → k < length tiles → a ≡ get_or tiles k a → after ≡ done ++ f a ∷ []
    → done ++ map f (drop k tiles) ≡ all → after ++ map f (drop (k + 1) tiles) ≡ all
mapped_more f done after tiles k a all low is one was =
    let next : k + 1 ≡ suc k = omega arith in
    let left : drop k tiles ≡ a ∷ drop (suc k) tiles = drop-cons tiles k a low ∙ ap (λ x. x ∷ drop (suc k) tiles) (sym is) in
    ap (λ xs. xs ++ map f (drop (k + 1) tiles)) one
    ∙ append_assoc done (f a ∷ []) (map f (drop (k + 1) tiles))
    ∙ ap (λ j. done ++ (f a ∷ map f (drop j tiles))) next
    ∙ ap (λ xs. done ++ map f xs) (sym left)
    ∙ was

sum_more : {X : Type 0} (f : X → ℕ) (xs after : List X) (x : X) (n m : ℕ) → after ≡ xs ++ x ∷ [] → n ≡ sum (map f xs) → m ≡ n + f x
    → m ≡ sum (map f after)
sum_more f xs after x n m one was is =
    let single : sum (map f (x ∷ [])) ≡ f x = (let e : 0 + f x ≡ f x = omega arith in e) in
    let last : sum_by f (x ∷ []) ≡ f x = sym (sum-map f (x ∷ [])) ∙ single in
    let all : sum (map f after) ≡ sum_by f xs + f x = ap (λ ys. sum (map f ys)) one ∙ sum-map f (xs ++ x ∷ []) ∙ sum_by-append f xs (x ∷ [])
    ∙ ap (λ k. sum_by f xs + k) last in
    is ∙ ap (λ k. k + f x) (was ∙ sum-map f xs) ∙ sym all

-- the box of the next tile stands in the list of all
find_next_tile_box : (f : Area → Option Area) (done all : List (Option Area)) (tiles : List Area) (k : ℕ) (a : Area) (o : Option Area)
    → k < length tiles
    → a ≡ get_or tiles k a → o ≡ f a → done ++ map f (drop k tiles) ≡ all → done ++ o ∷ map f (drop (suc k) tiles) ≡ all
find_next_tile_box f done all tiles k a o low is box was =
    let left : drop k tiles ≡ a ∷ drop (suc k) tiles = drop-cons tiles k a low ∙ ap (λ x. x ∷ drop (suc k) tiles) (sym is) in
    ap (λ x. done ++ x ∷ map f (drop (suc k) tiles)) box ∙ ap (λ xs. done ++ map f xs) (sym left) ∙ was

pub add_tile_box-requires-clause-added : goal.add_tile_box-requires-clause-added
add_tile_box-requires-clause-added c =
    let job = pipeline_in c.args.job.now in
    let inlining = c.args.self.now.inlining in
    let g = c.args.candidate.now.number in
    let h = c.args.candidate.now.group in
    let before = c.loop-place.invariant in
    let added = before.2 in
    let next = next_small count_box_points c.loop-place.trial.boxes.items _ (boxes_by_tile job inlining h g) c.in_ok-area.area
    (find_next_tile_box (λ b. box (target_over job inlining h b) g) c.loop-place.trial.boxes.items (boxes_by_tile job inlining h g) c.args.tiles.now
    c.loop-place.place c.index-tiles-place.result c.in_ok-area.area c.loop-place-test.true c.index-tiles-place.is
    c.in_ok-area.ensures.is
    before.1) in
    omega (arith, added, next, boxes_small job inlining h g c.args.job.now.well)

pub add_tile_box-requires-clause-scratch : goal.add_tile_box-requires-clause-scratch
add_tile_box-requires-clause-scratch c =
    let job = pipeline_in c.args.job.now in
    let self = c.args.self.now in
    let g = c.args.candidate.now.number in
    let h = c.args.candidate.now.group in
    let a = c.index-tiles-place.result in
    let tiles = c.args.tiles.now in
    let shared = ap (find_common_group (grouping_of self)) (sym c.requires.candidate.read) ∙ c.requires.candidate.shared in
    let at_group = group_is job (grouping_of self) self.standings.items g h c.args.job.now.well c.requires.stand shared in
    let here : slice_get (areas_at job h) c.loop-place.place ≡ Some a = ap (λ (xs : List Area). slice_get xs c.loop-place.place)
    (sym c.requires.tiles) ∙ slice_get_read tiles (length tiles) c.loop-place.place a
    (λ i. length tiles) c.loop-place-test.true c.index-tiles-place.is in
    let kept = c.find_kept_scratch.ensures ∙ kept_is_scratch job
    (grouping_of self) self.standings.items h c.loop-place.place a c.requires.stand at_group.2 at_group.0 here in
    omega (
      arith,
      kept,
      scratch_small (target_over job self.inlining h a) c.args.job.now.well,
      ap count_box_points c.in_ok-area.ensures.is,
      box_small (target_over job self.inlining h a) c.args.job.now.well g,
    )

pub loop-place-preserved : goal.loop-place-preserved
loop-place-preserved c =
    let job = pipeline_in c.args.job.now in
    let self = c.args.self.now in
    let g = c.args.candidate.now.number in
    let h = c.args.candidate.now.group in
    let a = c.index-tiles-place.result in
    let before = c.loop-place.invariant in
    let tiles = c.args.tiles.now in
    let shared = ap (find_common_group (grouping_of self)) (sym c.requires.candidate.read) ∙ c.requires.candidate.shared in
    let at_group = group_is job (grouping_of self) self.standings.items g h c.args.job.now.well c.requires.stand shared in
    let here : slice_get (areas_at job h) c.loop-place.place ≡ Some a = ap (λ (xs : List Area). slice_get xs c.loop-place.place)
    (sym c.requires.tiles) ∙ slice_get_read tiles (length tiles) c.loop-place.place a
    (λ i. length tiles) c.loop-place-test.true c.index-tiles-place.is in
    let kept = c.find_kept_scratch.ensures ∙ kept_is_scratch job
    (grouping_of self) self.standings.items h c.loop-place.place a c.requires.stand at_group.2 at_group.0 here in
    let boxes = c.in_ok-add_tile_box.ensures.boxes ∙ ap (λ (o : Option Area). c.loop-place.trial.boxes.items ++ o ∷ []) c.in_ok-area.ensures.is in
    let held = c.in_ok-add_tile_box.ensures.scratch
    ∙ (λ i. c.loop-place.trial.scratch.items ++ (kept i + count_box_points (c.in_ok-area.ensures.is i)) ∷ []) in (
      c.find_next_tile_box.ensures.room ∙ before.0,
      mapped_more (λ b. box (target_over job self.inlining h b) g) c.loop-place.trial.boxes.items c.add_tile_box.new.self.boxes.items tiles
          c.loop-place.place a _ c.loop-place-test.true c.index-tiles-place.is boxes before.1,
      sum_more count_box_points c.loop-place.trial.boxes.items c.add_tile_box.new.self.boxes.items c.in_ok-area.area c.loop-place.trial.added
          c.add_tile_box.new.self.added c.in_ok-add_tile_box.ensures.boxes before.2 c.in_ok-add_tile_box.ensures.added,
      mapped_more (λ b. scratch (target_over job self.inlining h b) + count_box_points (box (target_over job self.inlining h b) g))
          c.loop-place.trial.scratch.items c.add_tile_box.new.self.scratch.items tiles c.loop-place.place a _ c.loop-place-test.true
          c.index-tiles-place.is held before.3,
      c.in_ok-area.ensures.next,
      c.in_ok-area.ensures.wholes,
    )
