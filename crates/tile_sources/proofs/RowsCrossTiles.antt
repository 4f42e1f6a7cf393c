-- Tiles that are given, and rows of points that cross their borders.
use Rattle.std.proofs.Common.{arith, ℕ, zero, suc, ℤ, pos, ◌≡◌, ◌+◌, ◌-◌, ◌<◌, ◌≤◌, ◌+ℤ◌, ◌≤ℤ◌, ◌⊎◌, inl, inr, ap, ◌∙◌, sym}
use Rattle.std.proofs.Common.{subst, List, ◌++◌, take, drop, length, Option, Some, None, Bor}
use Rattle.std.specs.Prelude.{IfSome, IfNone}
use Rattle.std.proofs.Math.IntN.{+ℤ_idr}
use Rattle.std.proofs.lemmas.Int.{ints, clamps}
use Rattle.std.proofs.lemmas.Bool.{cases_lt}
use Rattle.std.proofs.lemmas.Grind.{common_steps}
use Rattle.domains.specs.Area.{HoldsPoint}
use borrow.Rule.Slice.PartMut.{put_mid}
use Rattle.domains.specs.Index.{Scale, IsIndex, index_at}
use Rattle.domains.specs.Span.{Ends, Holds}
use Rattle.domains.specs.Tiles.{IsTileOf, part_of, tile_area, tile_at}
use Rattle.domains.specs.declared.area.Area.{Area}
use Rattle.domains.specs.declared.grid.Grid.{Grid}
use Rattle.domains.proofs.Indices.{index_rises}
use Rattle.domains.proofs.PartsOfSpans.{place_only}
use Rattle.row_kernels.specs.declared.buffer_view.BufferView.{BufferView}
use Rattle.tile_eval.specs.Rows.{EachPlace, at}
use Rattle.tile_eval.specs.Raster.{place_of}
use Rattle.tile_sources.specs.KnownTiles.{KnownTiles, number_in, number_at, IsGivenAt}
use Rattle.tile_sources.specs.inside.Tiles.{IsTileAbout}

none_some : {X : Type 0} (x : X) → None ≡ Some x → ⊥
none_some x e = absurd (cc)

pub if_none : {X : Type 0} (o : Option X) (P : Type 0) → P → IfNone o P
if_none None P p = p
if_none (Some x) P p = tt

-- ---- the tile of a point

module _ (given : KnownTiles) (g : ℕ) (grid : Grid) (r c r' c' : ℤ) (i j : ℕ) (row : r' ≡ r) (col : c' ≡ c) (is : (i, j)
    ≡ tile_at grid r' c') where
  same_tile : (i, j) ≡ tile_at grid r c
  same_tile = is ∙ (λ k. tile_at grid (row k) (col k))

  pub not_given : given g i j ≡ None → ¬ (IsGivenAt given g grid r c)
  not_given none h = none_some h.1.0 (sym none ∙ ap (λ (t : ℕ × ℕ). given g t.0 t.1) same_tile ∙ h.1.1)

  pub tile_about : (block : BufferView) (area : Area) (xs : List ℤ) → IsTileOf grid r' c' (i, j) → block.area ≡ area
      → area ≡ tile_area grid i j → block.values.now ≡ xs → given g i j ≡ Some xs → IsTileAbout given g grid r c block
  tile_about block area xs of same tile numbers gives = record {
    area = same ∙ tile ∙ ap (λ (t : ℕ × ℕ). tile_area grid t.0 t.1) same_tile;
    numbers = sym (ap (λ (t : ℕ × ℕ). given g t.0 t.1) same_tile) ∙ gives ∙ ap (λ (ys : List ℤ). Some ys) (sym numbers);
    holds =
        subst (λ (a : Area). HoldsPoint a r c) (sym (same ∙ tile))
        (subst (λ (z : ℤ). HoldsPoint (tile_area grid i j) z c) row (subst (λ (z : ℤ). HoldsPoint (tile_area grid i j) r' z) col of.holds));
  }

-- parts of a span have numbers only where they are longer than 0
some_side : (s : Ends) (side i : ℕ) (v : ℤ) → Holds (part_of s side i) v → 1 ≤ side
some_side s zero i v h = let low = h.0 in let high = h.1 in absurd (omega (arith, ints, clamps))
some_side s (suc side) i v h = omega arith

pub same_about : (given : KnownTiles) (g : ℕ) (grid : Grid) (r c r' c' : ℤ) (block : BufferView) → r' ≡ r → c' ≡ c
    → IsTileAbout given g grid r' c' block → IsTileAbout given g grid r c block
same_about given g grid r c r' c' block row col about =
    subst (λ (z : ℤ). IsTileAbout given g grid z c block) row (subst (λ (z : ℤ). IsTileAbout given g grid r' z block) col about)

module _ (given : KnownTiles) (g : ℕ) (grid : Grid) (r c : ℤ) (block : BufferView) (about : IsTileAbout given g grid r c block) where
  -- its number stands in the block
  pub number_is : at block.values.now (place_of block.area r c) ≡ number_at given g grid r c
  number_is =
      ap (λ (a : Area). at block.values.now (place_of a r c)) about.area
      ∙ ap (λ (o : Option (List ℤ)). number_in (tile_area grid (tile_at grid r c).0 (tile_at grid r c).1) r c o) (sym about.numbers)

  -- so do those of the other points of the block's area
  pub about_more : (d : ℤ) → HoldsPoint block.area r d → IsTileAbout given g grid r d block
  about_more d held =
      let t : ℕ × ℕ = tile_at grid r c in
      let inside : HoldsPoint (tile_area grid t.0 t.1) r d = subst (λ (a : Area). HoldsPoint a r d) about.area held in
      let col : t.1 ≡ (tile_at grid r d).1 = place_only grid.area.cols grid.sides.width d t.1
      (some_side grid.area.cols grid.sides.width t.1 d inside.1) inside.1 in
      record {
        area = about.area ∙ ap (tile_area grid t.0) col;
        numbers = sym (ap (given g t.0) col) ∙ about.numbers;
        holds = held;
      }

-- ---- a row of points from the first on

-- within the columns of an area
row_held : (a : Area) (r c : ℤ) (n k : ℕ) → HoldsPoint a r c → (c +ℤ pos n) ≤ℤ (a.cols.hi +ℤ pos 1) → k < n → HoldsPoint a r (c +ℤ pos k)
row_held a r c n k h most l = let low = h.1.0 in (h.0, (omega (arith, ints), omega (arith, ints)))

-- as far as a part of a row goes
pub part_held : (a : Area) (cols : Ends) (r c : ℤ) (n : ℕ) → HoldsPoint a r c → cols ≡ a.cols → (c +ℤ pos n) ≤ℤ (cols.hi +ℤ pos 1)
    → EachPlace n (λ k. HoldsPoint a r (c +ℤ pos k))
part_held a cols r c n h same most k l =
    row_held a r c n k h (subst (λ (s : Ends). (c +ℤ pos n) ≤ℤ (s.hi +ℤ pos 1)) same most) l

take_len : (n : ℕ) (xs : List ℤ) → n ≤ length xs → length (take n xs) ≡ n
take_len n xs le = grind (arith, common_steps)

pub in_front : (k : ℕ) (xs ys : List ℤ) → k < length xs → at (xs ++ ys) k ≡ at xs k
in_front k xs ys l = grind (arith, common_steps)

-- ---- columns that an index takes, from the first on

-- an index never falls: where it takes two columns into a span, it takes those between there too
between_held : (s : Ends) (x : Scale) (c : ℤ) (j k : ℕ) → IsIndex x → Holds s (index_at x c) → Holds s (index_at x (c +ℤ pos j)) → k ≤ j
    → Holds s (index_at x (c +ℤ pos k))
between_held s x c j k is first last le =
    let low : s.lo ≤ℤ index_at x c = first.0 in
    let high : index_at x (c +ℤ pos j) ≤ℤ s.hi = last.1 in
    let from : index_at x c ≤ℤ index_at x (c +ℤ pos k) = index_rises x c (c +ℤ pos k) is (omega (arith, ints)) in
    let to : index_at x (c +ℤ pos k) ≤ℤ index_at x (c +ℤ pos j) = index_rises x (c +ℤ pos k) (c +ℤ pos j) is (omega (arith, ints)) in
    (omega (arith, ints), omega (arith, ints))

-- into a span, from one column to each further one
pub first_held : (s : Ends) (x : Scale) (c : ℤ) → Holds s (index_at x c) → EachPlace 1 (λ k. Holds s (index_at x (c +ℤ pos k)))
first_held s x c first zero l = subst (λ (z : ℤ). Holds s (index_at x z)) (sym (+ℤ_idr c)) first
first_held s x c first (suc k) l = absurd (omega arith)

pub more_held : (s : Ends) (x : Scale) (c : ℤ) (j : ℕ) → IsIndex x → Holds s (index_at x c) → Holds s (index_at x (c +ℤ pos j))
    → EachPlace (j + 1) (λ k. Holds s (index_at x (c +ℤ pos k)))
more_held s x c j is first last k l = between_held s x c j k is first last (omega arith)

-- within the area of a block
pub picked_held : (a : Area) (cols : Ends) (r c : ℤ) (f : ℕ → ℤ) (n : ℕ) (out : List ℤ) → HoldsPoint a r c → cols ≡ a.cols → n ≤ length out
    → EachPlace n (λ k. Holds cols (f k)) → EachPlace (length (take n out)) (λ k. HoldsPoint a r (f k))
picked_held a cols r c f n out h same le each k l =
    (h.0, subst (λ (s : Ends). Holds s (f k)) same (each k (subst (λ (m : ℕ). k < m) (take_len n out le) l)))

-- the numbers there
pub picked_number : (given : KnownTiles) (g : ℕ) (grid : Grid) (r c r' : ℤ) (block : BufferView) (f : ℕ
    → ℤ) (n k : ℕ) (out new rest : List ℤ) → IsTileAbout given g grid r c block → r' ≡ r → n ≤ length out
    → length new ≡ length (take n out) → k < n
    → EachPlace (length (take n out)) (λ j. HoldsPoint block.area r (f j))
    → EachPlace (length (take n out)) (λ j. at new j ≡ at block.values.now (place_of block.area r' (f j)))
    → at (new ++ rest) k ≡ number_at given g grid r (f k)
picked_number given g grid r c r' block f n k out new rest about row le len l held numbers =
    let within : k < length (take n out) = subst (λ (m : ℕ). k < m) (sym (take_len n out le)) l in
    in_front k new rest (subst (λ (m : ℕ). k < m) (sym len) within)
    ∙ numbers k within
    ∙ ap (λ (z : ℤ). at block.values.now (place_of block.area z (f k))) row
    ∙ number_is given g grid r (f k) block (about_more given g grid r c block about (f k) (held k within))

-- a slice of the block in which a row begins
pub slice_numbers : (given : KnownTiles) (g : ℕ) (grid : Grid) (r c r' c' : ℤ) (block : BufferView) (n : ℕ) (o : Option (Bor (List ℤ)))
    → IsTileAbout given g grid r c block → r' ≡ r → c' ≡ c
    → IfSome o (λ l. length l.now ≡ n) → IfSome o (λ l. EachPlace n (λ k. HoldsPoint block.area r' (c' +ℤ pos k)))
    → IfSome o (λ l. EachPlace n (λ k. at l.now k ≡ at block.values.now (place_of block.area r' (c' +ℤ pos k))))
    → IfSome o (λ l. (length l.now ≡ n) × EachPlace n (λ k. at l.now k ≡ number_at given g grid r (c +ℤ pos k)))
slice_numbers given g grid r c r' c' block n None about row col long held numbers = tt
slice_numbers given g grid r c r' c' block n (Some l) about row col long held numbers = (
  long,
  λ k low.
      let here : HoldsPoint block.area r (c +ℤ pos k) = subst (λ (z : ℤ). HoldsPoint block.area z (c +ℤ pos k)) row
      (subst (λ (z : ℤ). HoldsPoint block.area r' (z +ℤ pos k)) col (held k low)) in
      numbers k low
      ∙ (λ i. at block.values.now (place_of block.area (row i) (col i +ℤ pos k)))
      ∙ number_is given g grid r (c +ℤ pos k) block (about_more given g grid r c block about (c +ℤ pos k) here),
)

put_before : (a n k : ℕ) (xs ys : List ℤ) → k < a → a ≤ length xs → at (put_mid a n xs ys) k ≡ at xs k
put_before a n k xs ys l le = grind (arith, common_steps)

put_within : (a n k : ℕ) (xs ys : List ℤ) → k < length ys → a ≤ length xs → at (put_mid a n xs ys) (a + k) ≡ at ys k
put_within a n k xs ys l le = grind (arith, common_steps)

put_len : (a : ℕ) (xs ys : List ℤ) → a ≤ length xs → length ys ≡ length xs - a → length (put_mid a (length xs - a) xs ys) ≡ length xs
put_len a xs ys le e = grind (arith, common_steps)

rest_len : (a : ℕ) (xs : List ℤ) → length (take (length xs - a) (drop a xs)) ≡ length xs - a
rest_len a xs = grind (arith, common_steps)

column : (c d : ℤ) (done k : ℕ) → d ≡ c +ℤ pos done → done ≤ k → d +ℤ pos (k - done) ≡ c +ℤ pos k
column c d done k e l = omega (arith, ints)

further : (c d : ℤ) (done k : ℕ) → d ≡ c +ℤ pos done → c +ℤ pos (done + k) ≡ d +ℤ pos k
further c d done k e = omega (arith, ints)

-- a row as far as it is done, and its rest from column d on
module _ (c d : ℤ) (done : ℕ) (out : List ℤ) (le : done ≤ length out) (column_is : d ≡ c +ℤ pos done) where
  -- what holds along the row holds along its rest
  pub rest_held : (P : ℤ → Type 0) (n : ℕ) → length out ≡ n → EachPlace n (λ k. P (c +ℤ pos k))
      → EachPlace (length (take (length out - done) (drop done out))) (λ k. P (d +ℤ pos k))
  rest_held P n len each k h =
      let short : k < length out - done = subst (λ (m : ℕ). k < m) (rest_len done out) h in
      subst P (further c d done k column_is) (each (done + k) (omega arith))

  module _ (new : List ℤ) (n : ℕ) (len : length new
      ≡ length (take (length out - done) (drop done out))) (most : n ≤ length (take (length out - done) (drop done out))) where
    new_len : length new ≡ length out - done
    new_len = len ∙ rest_len done out

    pub still_most : done + n ≤ length (put_mid done (length out - done) out new)
    still_most = omega (arith, put_len done out new le new_len, rest_len done out)

    -- a row that is right as far as it is done goes on with numbers that are right
    pub row_goes_on : (f : ℤ → ℤ) → EachPlace done (λ k. at out k ≡ f (c +ℤ pos k)) → EachPlace n (λ k. at new k ≡ f (d +ℤ pos k))
        → EachPlace (done + n) (λ k. at (put_mid done (length out - done) out new) k ≡ f (c +ℤ pos k))
    row_goes_on f old more k h = by (cases_lt k done)
      where
        by : (k < done) ⊎ (done ≤ k) → at (put_mid done (length out - done) out new) k ≡ f (c +ℤ pos k)
        by (inl l) = put_before done (length out - done) k out new l le ∙ old k l
        by (inr l) =
            let short : k - done < n = omega arith in
            let within : k - done < length new = omega (arith, len) in
            let place : k ≡ done + (k - done) = omega arith in
            ap (at (put_mid done (length out - done) out new)) place ∙ put_within done (length out - done) (k - done) out new within le
            ∙ more (k - done) short ∙ ap f (column c d done k column_is l)
