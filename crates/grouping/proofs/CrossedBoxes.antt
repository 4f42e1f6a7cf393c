-- The boxes of a function follow from those in the first row and the first column of tiles, where the regions of its readers do.
use Rattle.std.proofs.Common.{ℕ, ◌+◌, ◌*◌, ◌<◌, ◌≤◌, ◌≡◌, ◌⊎◌, inl, inr, nat_eq, false, Option, Some, None, List, [], ◌∷◌, ◌++◌}
use Rattle.std.proofs.Common.{map, length, get_or, arith, refl, sym, ap, subst, ◌∙◌}
use Rattle.std.specs.Prelude.{All, slice_get, slice_index_or, if◌then◌else◌}
use Rattle.std.specs.List.{range_with_len}
use Rattle.std.specs.Option.{option_map_or}
use Rattle.std.proofs.lemmas.Bool.{cases_lt, ne_eqb}
use Rattle.std.proofs.lemmas.Nat.{mul-add-lt}
use Rattle.std.proofs.lemmas.List.{length_push, get_or_append_left}
use Rattle.std.proofs.lemmas.List.FromFn.{length-range_with_len, get_or-range_with_len}
use Rattle.std.proofs.lemmas.Option.{slice_get_read, slice_get_within, slice_get-get_or, same_Some}
use Rattle.domains.specs.Span.{Ends}
use Rattle.domains.specs.Tiles.{HasTile, tile_rows, tile_cols, tile_area}
use Rattle.domains.specs.declared.area.Area.{Area}
use Rattle.domains.specs.declared.grid.Grid.{Grid}
use Rattle.domains.proofs.Places.{slice_get-end}
use Rattle.job.specs.Pipeline.{Pipeline}
use Rattle.job.specs.Readers.{grid_at}
use Rattle.job.specs.WellFormed.{IsJob}
use Rattle.tile_boxes.specs.Targets.{box, target_over}
use Rattle.tile_boxes.specs.Tallies.{area_of, list_tile_areas}
use Rattle.grouping.specs.inside.Standings.{boxes_by_tile, AllStand}
use Rattle.grouping.specs.inside.Trials.{grouping_of, find_kept_box, IsCandidate}
use Rattle.grouping.specs.inside.Crossed.{crossed, boxes_in, IsCrossed}
use Rattle.grouping.specs.inside.Between.{find_kept_region, IsBetween, IsNumberedTile, HasWhole, find_group_tile_by_row_and_column, LiesAcross, AreSides}
use Rattle.grouping.specs.declared.between.NumberedTile.{NumberedTile}
use Rattle.grouping.specs.declared.boxes.GroupBoxes.{GroupBoxes}
use Rattle.grouping.specs.declared.boxes.GroupBoxes.TheVariants.{Each, Crossed}
use Rattle.grouping.specs.declared.greedy.Grouper.{Grouper}
use Rattle.grouping.specs.declared.standing.StageStatus.{StageStatus}
use Rattle.grouping.specs.declared.standing.StageStatus.TheVariants.{Inlined}
use Rattle.grouping.specs.declared.trial.InlineCandidate.{InlineCandidate}
use Rattle.grouping.proofs.CrossedLists.{length-by_rows, at_row, map_by_rows, same_by_rows}
use Rattle.grouping.proofs.KeptBetween.{kept_between}

-- ---- tiles

number_at : (n i : ℕ) → i < n → slice_get (range_with_len 0 n) i ≡ Some i
number_at n i low =
    let same : 0 + i ≡ i = omega arith in
    slice_get_read (range_with_len 0 n) n i i (sym (length-range_with_len 0 n)) low (sym (get_or-range_with_len 0 n i i low ∙ same))

-- the tile in a row and a column stands where it should in the list of all
pub tile_there : (job : Pipeline) (h : ℕ) (g : Grid) (i j : ℕ) → grid_at job h ≡ Some g → HasTile g i j → IsNumberedTile job h (find_group_tile_by_row_and_column g i j)
tile_there job h g i j at has =
    let rows = range_with_len 0 (tile_rows g) in
    let cols = range_with_len 0 (tile_cols g) in
    let width = length-range_with_len 0 (tile_cols g) in
    let height = length-range_with_len 0 (tile_rows g) in
    let a = tile_area g i j in
    let place : i * length cols + j ≡ i * tile_cols g + j = ap (λ n. i * n + j) width in
    let count : length (list_tile_areas g) ≡ tile_rows g * tile_cols g = length-by_rows (tile_area g) rows cols
    ∙ (λ k. height k * width k) in
    let low : i * tile_cols g + j < length (list_tile_areas g) = omega (arith, count, mul-add-lt i (tile_cols g) j (tile_rows g) has.0 has.1) in
    let is : get_or (list_tile_areas g) (i * tile_cols g + j) a ≡ a = ap (λ k. get_or (list_tile_areas g) k a) (sym place)
    ∙ at_row (tile_area g) rows cols i j i j a (number_at (tile_rows g) i has.0) (number_at (tile_cols g) j has.1) in
    ap (λ o. slice_get (option_map_or list_tile_areas o []) (i * tile_cols g + j)) at
    ∙ slice_get_read (list_tile_areas g) (length (list_tile_areas g)) (i * tile_cols g + j) a refl low (sym is)

-- ---- readers

crossed_at : (rows cols : List Ends) (n i j : ℕ) (d : Ends) → length cols ≡ n → i < length rows → j < n
    → slice_index_or (crossed rows cols) (i * n + j) None ≡ Some (area_of (get_or rows i d) (get_or cols j d))
crossed_at rows cols n i j d width row col =
    let low : j < length cols = omega arith in
    ap (λ k. get_or (crossed rows cols) (i * k + j) None) (sym width)
    ∙ at_row (λ r c. Some (area_of r c)) rows cols i j (get_or rows i d) (get_or cols j d) None (slice_get-get_or rows i d row)
    (slice_get-get_or cols j d low)

between_crossed : (b : GroupBoxes) (g : Grid) (i j : ℕ) → IsCrossed (tile_rows g) (tile_cols g) b → HasTile g i j
    → IsBetween (slice_index_or (boxes_in b) (i * tile_cols g + j) None) (slice_index_or (boxes_in b) (i * tile_cols g + 0) None)
    (slice_index_or (boxes_in b) (0 * tile_cols g + j) None)
between_crossed (Each boxes) g i j are has = absurd are
between_crossed (Crossed spans) g i j are has =
    let d = g.area.rows in
    let below = has.0 in
    let before = has.1 in
    let height = are.0 in
    let at : (k l : ℕ) → k < tile_rows g → l < tile_cols g
    → slice_index_or (crossed spans.rows.items spans.cols.items) (k * tile_cols g + l) None
    ≡ Some (area_of (get_or spans.rows.items k d) (get_or spans.cols.items l d)) =
    λ k l low left. crossed_at spans.rows.items spans.cols.items (tile_cols g) k l d are.1 (subst (λ n. k < n) (sym height) low) left in
    let first = at i 0 below (omega arith) in
    let top = at 0 j (omega arith) before in
    let here = at i j below before in
    subst (λ (o : Option Area). IsBetween o (slice_index_or (crossed spans.rows.items spans.cols.items) (i * tile_cols g + 0) None)
    (slice_index_or (crossed spans.rows.items spans.cols.items) (0 * tile_cols g + j) None)) (sym here)
    (subst (λ (o : Option Area). IsBetween (Some (area_of (get_or spans.rows.items i d) (get_or spans.cols.items j d))) o
    (slice_index_or (crossed spans.rows.items spans.cols.items) (0 * tile_cols g + j) None)) (sym first)
    (subst (λ (o : Option Area). IsBetween (Some (area_of (get_or spans.rows.items i d) (get_or spans.cols.items j d)))
    (Some (area_of (get_or spans.rows.items i d) (get_or spans.cols.items 0 d))) o) (sym top) (refl, refl)))

-- what is kept of an inlined reader by rows and columns lies across
pub kept_across : (standings : List StageStatus) (h r : ℕ) (g : Grid) (b : GroupBoxes) → (r ≡ h → ⊥) → slice_get standings r ≡ Some (Inlined b)
    → IsCrossed (tile_rows g) (tile_cols g) b → LiesAcross standings h g r
kept_across standings h r g b apart is are i j has =
    let other : nat_eq r h ≡ false = ne_eqb r h apart in
    let kept : (spot : NumberedTile) → find_kept_region standings h spot r ≡ slice_index_or (boxes_in b) spot.place None =
    λ spot k. if other k then Some spot.tile else find_kept_box (is k) spot.place in
    subst (λ (o : Option Area). IsBetween o (find_kept_region standings h (find_group_tile_by_row_and_column g i 0) r) (find_kept_region standings h (find_group_tile_by_row_and_column g 0 j) r))
    (sym (kept (find_group_tile_by_row_and_column g i j)))
    (subst (λ (o : Option Area). IsBetween (slice_index_or (boxes_in b) (i * tile_cols g + j) None) o
    (find_kept_region standings h (find_group_tile_by_row_and_column g 0 j) r)) (sym (kept (find_group_tile_by_row_and_column g i 0)))
    (subst (λ (o : Option Area). IsBetween (slice_index_or (boxes_in b) (i * tile_cols g + j) None)
    (slice_index_or (boxes_in b) (i * tile_cols g + 0) None) o) (sym (kept (find_group_tile_by_row_and_column g 0 j))) (between_crossed b g i j are has)))

-- ---- sides

-- one tile more
pub one_more_side : (job : Pipeline) (c : Grouper) (k : InlineCandidate) (spot : ℕ → NumberedTile) (side : Area → Ends) (n : ℕ) (sides after : List Ends)
    (area : Area) → AreSides job c k spot side n sides → HasWhole job c k (spot n) area → after ≡ sides ++ side area ∷ []
    → AreSides job c k spot side (n + 1) after
one_more_side job c k spot side n sides after area are whole is = record {
  count = ap length is ∙ length_push sides (side area) ∙ ap (λ m. m + 1) are.count;
  each = λ i low. at i low (cases_lt i n);
}
  where
    at : (i : ℕ) → i < n + 1 → (i < n) ⊎ (n ≤ i) → (a : Area) × HasWhole job c k (spot i) a × (slice_get after i ≡ Some (side a))
    at i low (inl before) =
        let was = are.each i before in
        let count = are.count in
        let d = side area in
        let inside : i < length sides = omega arith in
        let longer : i < length (sides ++ d ∷ []) = omega (arith, length_push sides d) in (
          was.0,
          was.1,
          ap (λ xs. slice_get xs i) is ∙ slice_get-get_or (sides ++ d ∷ []) i d longer
              ∙ ap Some (get_or_append_left sides (d ∷ []) d i inside) ∙ sym (slice_get-get_or sides i d inside) ∙ was.2,
        )
    at i low (inr past) =
        let same : n ≡ i = omega arith in
        subst (λ (m : ℕ). (a : Area) × HasWhole job c k (spot m) a × (slice_get after m ≡ Some (side a))) same
        (area, whole, ap (slice_get after) (sym are.count) ∙ ap (λ xs. slice_get xs (length sides)) is ∙ slice_get-end sides (side area))

-- ---- boxes

pub crossed_is : (job : Pipeline) (c : Grouper) (k : InlineCandidate) (g : Grid) (rows cols : List Ends) → IsJob job
    → AllStand job (grouping_of c) c.standings.items → IsCandidate job (grouping_of c) k → grid_at job k.group ≡ Some g
    → All (LiesAcross c.standings.items k.group g) k.readers.items
    → AreSides job c k (λ i. find_group_tile_by_row_and_column g i 0) (λ a. a.rows) (tile_rows g) rows
    → AreSides job c k (λ j. find_group_tile_by_row_and_column g 0 j) (λ a. a.cols) (tile_cols g) cols
    → crossed rows cols ≡ boxes_by_tile job c.inlining k.group k.number
crossed_is job c k g rows cols is stand candidate at across down along =
    let inside : Area → Option Area = λ a. box (target_over job c.inlining k.group a) k.number in
    same_by_rows (λ r d. Some (area_of r d)) (λ i j. inside (tile_area g i j)) rows cols (range_with_len 0 (tile_rows g))
    (range_with_len 0 (tile_cols g)) (down.count ∙ sym (length-range_with_len 0 (tile_rows g)))
    (along.count ∙ sym (length-range_with_len 0 (tile_cols g))) same
    ∙ sym (map_by_rows inside (tile_area g) (range_with_len 0 (tile_rows g)) (range_with_len 0 (tile_cols g)))
    ∙ ap (λ o. map inside (option_map_or list_tile_areas o [])) (sym at)
  where
    here : (i j : ℕ) (r d : Ends) → i < tile_rows g → j < tile_cols g → slice_get rows i ≡ Some r → slice_get cols j ≡ Some d
        → Some (area_of r d) ≡ box (target_over job c.inlining k.group (tile_area g i j)) k.number
    here i j r d below before row col =
        let left = down.each i below in
        let top = along.each j before in
        let some : 0 < tile_rows g = omega arith in
        let first : 0 < tile_cols g = omega arith in
        let rows_are : r ≡ left.0.rows = same_Some r left.0.rows (sym row ∙ left.2) in
        let cols_are : d ≡ top.0.cols = same_Some d top.0.cols (sym col ∙ top.2) in
        (λ n. Some (area_of (rows_are n) (cols_are n)))
        ∙ sym (kept_between job c k (find_group_tile_by_row_and_column g i j) (find_group_tile_by_row_and_column g i 0) (find_group_tile_by_row_and_column g 0 j) left.0 top.0 is stand candidate
        (tile_there job k.group g i j at (below, before)) (tile_there job k.group g i 0 at (below, first))
        (tile_there job k.group g 0 j at (some, before)) left.1 top.1 (λ q e low. across q e low i j (below, before)))

    same : (i j : ℕ) (r d : Ends) (u v : ℕ) → slice_get rows i ≡ Some r → slice_get cols j ≡ Some d
        → slice_get (range_with_len 0 (tile_rows g)) i ≡ Some u → slice_get (range_with_len 0 (tile_cols g)) j ≡ Some v
        → Some (area_of r d) ≡ box (target_over job c.inlining k.group (tile_area g u v)) k.number
    same i j r d u v row col at_u at_v =
        let below : i < tile_rows g = subst (λ n. i < n) down.count (slice_get_within rows i r row) in
        let before : j < tile_cols g = subst (λ n. j < n) along.count (slice_get_within cols j d col) in
        let u_is : i ≡ u = same_Some i u (sym (number_at (tile_rows g) i below) ∙ at_u) in
        let v_is : j ≡ v = same_Some j v (sym (number_at (tile_cols g) j before) ∙ at_v) in
        here i j r d below before row col
        ∙ (λ n. box (target_over job c.inlining k.group (tile_area g (u_is n) (v_is n))) k.number)
