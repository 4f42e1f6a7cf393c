-- Totals over the tiles of an area join to the total over all of it.
use Rattle.std.proofs.Common.{ℕ, ◌≡◌, ℤ, Bool, List, [], ◌∷◌}
use Rattle.std.proofs.Common.{◌++◌, append_assoc, ap, sym, ◌∙◌, refl}
use Rattle.std.specs.Prelude.{map, fold, IsPermutation}
use Rattle.std.specs.List.{flat_map, range_with_len}
use Rattle.std.proofs.lemmas.Grind.{flat_map-append}
use Rattle.std.proofs.lemmas.List.{map-append, append-nil}
use Rattle.std.proofs.lemmas.List.Sorted.{IsPermutation-map}
use Rattle.domains.specs.Area.{points_of}
use Rattle.domains.specs.Pairs.{pairs}
use Rattle.domains.specs.Span.{numbers_of}
use Rattle.domains.specs.Tiles.{IsGrid, part_of, tile_area, tile_rows, tile_cols, tiles_of}
use Rattle.domains.specs.declared.grid.Grid.{Grid}
use Rattle.domains.proofs.PairLists.{row_of}
use Rattle.operators.specs.declared.operator.ReductionOp.{ReductionOp}
use Rattle.job.specs.Totals.{start_of, joined}
use Rattle.reductions.proofs.TotalsInAnyOrder.{total_by_values, total_of-none, joined-exchange, starts_join, total_among}
use Rattle.reductions.proofs.TotalsInAnyOrder.{total_among-append, total_of-permuted}
use Rattle.tile_eval.proofs.SpansByParts.{parts_are_all}

-- ---- points in parts

flat_pairs : {X : Type 0} (f : ℕ × ℕ → List X) (is js : List ℕ) → flat_map f (pairs is js) ≡ flat_map (λ i. flat_map (λ j. f (i, j)) js) is
flat_pairs f [] js = refl
flat_pairs {X} f (i ∷ is) js =
    flat_map-append f (row_of i js) (pairs is js)
    ∙ ap (λ (xs : List X). xs ++ flat_map f (pairs is js)) (flat_row i js)
    ∙ ap (λ (xs : List X). flat_map (λ j. f (i, j)) js ++ xs) (flat_pairs f is js)
  where
    flat_row : (i : ℕ) (js : List ℕ) → flat_map f (row_of i js) ≡ flat_map (λ j. f (i, j)) js
    flat_row i [] = refl
    flat_row i (j ∷ js) = ap (λ (xs : List X). f (i, j) ++ xs) (flat_row i js)

module _ (way : ReductionOp) (value : ℤ × ℤ → ℤ) (test : ℤ × ℤ → Bool) where
  abbrev total : List (ℤ × ℤ) → ℤ
  total = total_among way value test

  both : (ps qs : List (ℤ × ℤ)) → total (ps ++ qs) ≡ joined way (total ps) (total qs)
  both = total_among-append way value test

  -- two parts of the columns
  columns_join : (rs cs ds : List ℤ) → total (pairs rs (cs ++ ds)) ≡ joined way (total (pairs rs cs)) (total (pairs rs ds))
  columns_join [] cs ds =
      total_of-none way ∙ sym (starts_join way) ∙ (λ i. joined way (sym (total_of-none way) i) (sym (total_of-none way) i))
  columns_join (r ∷ rs) cs ds =
      both (row_of r (cs ++ ds)) (pairs rs (cs ++ ds))
      ∙ (λ i. joined way (row i) (columns_join rs cs ds i))
      ∙ joined-exchange way (total (row_of r cs)) (total (row_of r ds)) (total (pairs rs cs)) (total (pairs rs ds))
      ∙ (λ i. joined way (sym (both (row_of r cs) (pairs rs cs)) i) (sym (both (row_of r ds) (pairs rs ds)) i))
    where
      row : total (row_of r (cs ++ ds)) ≡ joined way (total (row_of r cs)) (total (row_of r ds))
      row = ap total (map-append (λ c. (r, c)) cs ds) ∙ both (row_of r cs) (row_of r ds)

  no_columns : (rs : List ℤ) → pairs {A = ℤ} {B = ℤ} rs [] ≡ []
  no_columns [] = refl
  no_columns (r ∷ rs) = no_columns rs

  module _ {X : Type 0} (cols : X → List ℤ) where
    row_of_parts : (rs : List ℤ) (js : List X) → total (flat_map (λ j. pairs rs (cols j)) js) ≡ total (pairs rs (flat_map cols js))
    row_of_parts rs [] = ap total (sym (no_columns rs))
    row_of_parts rs (j ∷ js) =
        both (pairs rs (cols j)) (flat_map (λ k. pairs rs (cols k)) js)
        ∙ ap (joined way (total (pairs rs (cols j)))) (row_of_parts rs js)
        ∙ sym (columns_join rs (cols j) (flat_map cols js))

    all_parts : (rows : X → List ℤ) (is js : List X)
        → total (flat_map (λ i. flat_map (λ j. pairs (rows i) (cols j)) js) is) ≡ total (pairs (flat_map rows is) (flat_map cols js))
    all_parts rows [] js = refl
    all_parts rows (i ∷ is) js =
        both (flat_map (λ j. pairs (rows i) (cols j)) js) (flat_map (λ k. flat_map (λ j. pairs (rows k) (cols j)) js) is)
        ∙ (λ t. joined way (row_of_parts (rows i) js t) (all_parts rows is js t))
        ∙ sym (both (pairs (rows i) (flat_map cols js)) (pairs (flat_map rows is) (flat_map cols js)))
        ∙ ap total (sym (flat_map-append (λ r. row_of r (flat_map cols js)) (rows i) (flat_map rows is)))

  -- ---- tiles

  -- the totals of some lists of points, joined one after the other
  points_after : {X : Type 0} (points : X → List (ℤ × ℤ)) (before : List (ℤ × ℤ)) (ts : List X)
      → fold (λ a t. joined way a (total (points t))) (total before) ts ≡ total (before ++ flat_map points ts)
  points_after points before [] = ap total (sym (append-nil before))
  points_after points before (t ∷ ts) =
      ap (λ (a : ℤ). fold (λ b u. joined way b (total (points u))) a ts) (sym (both before (points t)))
      ∙ points_after points (before ++ points t) ts
      ∙ ap total (append_assoc before (points t) (flat_map points ts))

  map_fold : {X : Type 0} (f : X → ℤ) (a : ℤ) (ts : List X) → fold (λ b t. joined way b (f t)) a ts ≡ fold (joined way) a (map f ts)
  map_fold f a [] = refl
  map_fold f a (t ∷ ts) = map_fold f (joined way a (f t)) ts

  -- and in any order
  any_order : {X : Type 0} (f : X → ℤ) (ts us : List X) → IsPermutation ts us
      → fold (λ b t. joined way b (f t)) (start_of way) us ≡ fold (λ b t. joined way b (f t)) (start_of way) ts
  any_order f ts us moved =
      map_fold f (start_of way) us
      ∙ total_by_values way (map f us)
      ∙ total_of-permuted way (map f ts) (map f us) (IsPermutation-map f ts us moved)
      ∙ sym (total_by_values way (map f ts))
      ∙ sym (map_fold f (start_of way) ts)

  -- the totals over the tiles of a grid, in any order, join to that over its area
  pub tiles_join : (grid : Grid) (tiles : List (ℕ × ℕ)) → IsGrid grid → IsPermutation (tiles_of grid) tiles
      → fold (λ a t. joined way a (total (points_of (tile_area grid t.0 t.1)))) (start_of way) tiles ≡ total (points_of grid.area)
  tiles_join grid tiles is moved =
      let points : ℕ × ℕ → List (ℤ × ℤ) = λ t. points_of (tile_area grid t.0 t.1) in
      let rows : ℕ → List ℤ = λ i. numbers_of (part_of grid.area.rows grid.sides.height i) in
      let cols : ℕ → List ℤ = λ j. numbers_of (part_of grid.area.cols grid.sides.width j) in
      let is_rows = range_with_len 0 (tile_rows grid) in
      let is_cols = range_with_len 0 (tile_cols grid) in
      any_order (λ t. total (points t)) (tiles_of grid) tiles moved
      ∙ ap (λ (a : ℤ). fold (λ b t. joined way b (total (points t))) a (tiles_of grid)) (sym (total_of-none way))
      ∙ points_after points [] (tiles_of grid)
      ∙ ap total (flat_pairs points is_rows is_cols)
      ∙ all_parts cols rows is_rows is_cols
      ∙ (λ i. total (pairs (parts_are_all grid.area.rows grid.sides.height is.area.rows is.sides.height_least i)
      (parts_are_all grid.area.cols grid.sides.width is.area.cols is.sides.width_least i)))
