-- The values at the points of an area, row by row.
use Rattle.std.proofs.Common.{arith, ℕ, zero, suc, ℤ, pos, negsuc, ◌≡◌, ◌+◌, ◌-◌, ◌*◌, ◌/◌, ◌%◌, ◌<◌, ◌≤◌, ◌+ℤ◌, ◌<ℤ◌, refl, sym}
use Rattle.std.proofs.Common.{ap, ◌∙◌, List, [], ◌∷◌, ◌++◌, map, length, ext_get_or}
use Rattle.std.proofs.Math.IntN.{+ℤ_idr}
use Rattle.std.proofs.Math.Nat.{mod-lt, div-lt_iff_lt-mul, suc-mul}
use Rattle.std.proofs.lemmas.Nat.{div-add-mod'}
use Rattle.std.proofs.lemmas.Int.{ints}
use Rattle.std.proofs.lemmas.List.{length-map, map-append, get_or_append_left, get_or-append_right}
use Rattle.std.specs.Int.{int_gap}
use Rattle.domains.specs.Pairs.{pairs}
use Rattle.domains.specs.Span.{Ends, Holds, len_of, numbers_from}
use Rattle.domains.specs.Area.{HoldsPoint, point_count}
use Rattle.domains.specs.declared.area.Area.{Area}
use Rattle.domains.proofs.Lengths.{gap_is}
use Rattle.domains.proofs.PairLists.{length-pairs}
use Rattle.domains.proofs.Spans.{length-numbers_from}
use Rattle.row_loops.specs.Rows.{at}
use Rattle.tile_eval.specs.Raster.{raster, place_of}

-- ---- lists of pairs

-- the values at the pairs of m numbers from a on with n numbers from b on
abbrev grid : (ℤ → ℤ → ℤ) → ℤ → ℤ → ℕ → ℕ → List ℤ
grid f a b m n = map (λ p. f p.0 p.1) (pairs (numbers_from a m) (numbers_from b n))

length-grid : (f : ℤ → ℤ → ℤ) (a b : ℤ) (m n : ℕ) → length (grid f a b m n) ≡ m * n
length-grid f a b m n =
    length-map (pairs (numbers_from a m) (numbers_from b n)) (λ (p : ℤ × ℤ). f p.0 p.1)
    ∙ length-pairs (numbers_from a m) (numbers_from b n)
    ∙ (λ i. length-numbers_from a m i * length-numbers_from b n i)

along_row : (f : ℤ → ℤ → ℤ) (r : ℤ) (cs : List ℤ) → map (λ (p : ℤ × ℤ). f p.0 p.1) (map (λ c. (r, c)) cs) ≡ map (f r) cs
along_row f r [] = refl
along_row f r (c ∷ cs) = ap (λ (zs : List ℤ). f r c ∷ zs) (along_row f r cs)

first_row : (f : ℤ → ℤ → ℤ) (a b : ℤ) (m n : ℕ) → grid f a b (suc m) n ≡ map (f a) (numbers_from b n) ++ grid f (a +ℤ pos 1) b m n
first_row f a b m n =
    map-append (λ (p : ℤ × ℤ). f p.0 p.1) (map (λ c. (a, c)) (numbers_from b n)) (pairs (numbers_from (a +ℤ pos 1) m) (numbers_from b n))
    ∙ ap (λ (zs : List ℤ). zs ++ grid f (a +ℤ pos 1) b m n) (along_row f a (numbers_from b n))

length-row : (g : ℤ → ℤ) (b : ℤ) (n : ℕ) → length (map g (numbers_from b n)) ≡ n
length-row g b n = length-map (numbers_from b n) g ∙ length-numbers_from b n

next : (b : ℤ) (k : ℕ) → b +ℤ pos 1 +ℤ pos k ≡ b +ℤ pos (suc k)
next b k = omega (arith, ints)

at_number : (g : ℤ → ℤ) (b : ℤ) (n k : ℕ) → k < n → at (map g (numbers_from b n)) k ≡ g (b +ℤ pos k)
at_number g b zero k h = absurd (omega arith)
at_number g b (suc n) zero h = ap g (sym (+ℤ_idr b))
at_number g b (suc n) (suc k) h = at_number g (b +ℤ pos 1) n k (omega arith) ∙ ap g (next b k)

at_pair : (f : ℤ → ℤ → ℤ) (a b : ℤ) (m n i k : ℕ) → i < m → k < n → at (grid f a b m n) (i * n + k) ≡ f (a +ℤ pos i) (b +ℤ pos k)
at_pair f a b zero n i k h l = absurd (omega arith)
at_pair f a b (suc m) n zero k h l =
    let place : 0 * n + k ≡ k = omega arith in
    let within : k < length (map (f a) (numbers_from b n)) = omega (arith, length-row (f a) b n) in
    ap (at (grid f a b (suc m) n)) place
    ∙ ap (λ (zs : List ℤ). at zs k) (first_row f a b m n)
    ∙ get_or_append_left (map (f a) (numbers_from b n)) (grid f (a +ℤ pos 1) b m n) (pos 0) k within
    ∙ at_number (f a) b n k l
    ∙ ap (λ (r : ℤ). f r (b +ℤ pos k)) (sym (+ℤ_idr a))
at_pair f a b (suc m) n (suc i) k h l =
    let past : n ≤ suc i * n + k = omega (arith, suc-mul i n) in
    let place : suc i * n + k - n ≡ i * n + k = omega (arith, suc-mul i n) in
    ap (λ (zs : List ℤ). at zs (suc i * n + k)) (first_row f a b m n)
    ∙ get_or-append_right (map (f a) (numbers_from b n)) (grid f (a +ℤ pos 1) b m n) n (suc i * n + k) (pos 0) (length-row (f a) b n) past
    ∙ ap (at (grid f (a +ℤ pos 1) b m n)) place
    ∙ at_pair f (a +ℤ pos 1) b m n i k (omega arith) l
    ∙ ap (λ (r : ℤ). f r (b +ℤ pos k)) (next a i)

-- ---- the place in its row, and the row

some_columns : (m n p : ℕ) → p < m * n → 0 < n
some_columns m zero p h = absurd (omega arith)
some_columns m (suc n) p h = omega arith

grid_of : (f : ℤ → ℤ → ℤ) (a b : ℤ) (m n : ℕ) (xs : List ℤ) → length xs ≡ m * n
    → ((i k : ℕ) → i < m → k < n → at xs (i * n + k) ≡ f (a +ℤ pos i) (b +ℤ pos k))
    → xs ≡ grid f a b m n
grid_of f a b m n xs len each = ext_get_or (pos 0) xs (grid f a b m n) (len ∙ sym (length-grid f a b m n)) same
  where
    same : (p : ℕ) → p < length xs → at xs p ≡ at (grid f a b m n) p
    same p h =
        let below : p < m * n = omega arith in
        let some : 0 < n = some_columns m n p below in
        let row : p / n < m = (div-lt_iff_lt-mul some).1 below in
        let col : p % n < n = mod-lt p some in
        let place : p / n * n + p % n ≡ p = div-add-mod' p n in
        ap (at xs) (sym place)
        ∙ each (p / n) (p % n) row col
        ∙ sym (at_pair f a b m n (p / n) (p % n) row col)
        ∙ ap (at (grid f a b m n)) place

-- ---- places of an area

within_gap : (a b : ℤ) (k : ℕ) → k < int_gap a b → (a +ℤ pos k) <ℤ b
within_gap (pos a) (pos b) k h = omega (arith, ints)
within_gap (pos a) (negsuc b) k h = absurd (omega arith)
within_gap (negsuc a) (pos b) k h = omega (arith, ints)
within_gap (negsuc a) (negsuc b) k h = omega (arith, ints)

-- number k of a span, counted from 0, is one of its numbers
pub nth_held : (s : Ends) (k : ℕ) → k < len_of s → Holds s (s.lo +ℤ pos k)
nth_held s k h = let below = within_gap s.lo (s.hi +ℤ pos 1) k h in (omega (arith, ints), omega (arith, ints))

-- how far a number of a span lies above the least is less than the span's length
pub held_below : (s : Ends) (v : ℤ) → Holds s v → int_gap s.lo v < len_of s
held_below s v h =
    let low = h.0 in let high = h.1 in
    let first = gap_is s.lo v low in
    let whole = gap_is s.lo (s.hi +ℤ pos 1) (omega (arith, ints)) in
    omega (arith, ints)

-- ---- rasters

pub raster_len : (area : Area) (f : ℤ → ℤ → ℤ) → length (raster area f) ≡ point_count area
raster_len area f = length-grid f area.rows.lo area.cols.lo (len_of area.rows) (len_of area.cols)

-- numbers that are those of f at each row and column are its values
pub raster_of : (area : Area) (f : ℤ → ℤ → ℤ) (xs : List ℤ) → length xs ≡ point_count area
    → ((i k : ℕ) → i < len_of area.rows → k < len_of area.cols
    → at xs (i * len_of area.cols + k) ≡ f (area.rows.lo +ℤ pos i) (area.cols.lo +ℤ pos k))
    → xs ≡ raster area f
raster_of area f xs len each = grid_of f area.rows.lo area.cols.lo (len_of area.rows) (len_of area.cols) xs len each

pub raster_at : (area : Area) (f : ℤ → ℤ → ℤ) (r c : ℤ) → HoldsPoint area r c → at (raster area f) (place_of area r c) ≡ f r c
raster_at area f r c h =
    at_pair f area.rows.lo area.cols.lo (len_of area.rows) (len_of area.cols) (int_gap area.rows.lo r) (int_gap area.cols.lo c)
    (held_below area.rows r h.0) (held_below area.cols c h.1)
    ∙ (λ i. f (gap_is area.rows.lo r h.0.0 i) (gap_is area.cols.lo c h.1.0 i))

pub raster_same : (area : Area) (f g : ℤ → ℤ → ℤ) → ((r c : ℤ) → HoldsPoint area r c → f r c ≡ g r c) → raster area f ≡ raster area g
raster_same area f g same =
    raster_of area g (raster area f) (raster_len area f)
    (λ i k h l. at_pair f area.rows.lo area.cols.lo (len_of area.rows) (len_of area.cols) i k h l
    ∙ same (area.rows.lo +ℤ pos i) (area.cols.lo +ℤ pos k) (nth_held area.rows i h, nth_held area.cols k l))
