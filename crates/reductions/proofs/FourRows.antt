-- Four rows of values in adjacent bins, of which each column is joined first.
use Rattle.std.proofs.Common.{arith, ℕ, zero, suc, ◌≡◌, ◌<◌, ◌+◌, ℤ, pos, ◌+ℤ◌, ◌<ℤ◌, Bool, true, false, cond}
use Rattle.std.proofs.Common.{List, [], ◌∷◌, length, ap, sym, ◌∙◌, refl}
use Rattle.std.proofs.Common.{subst}
use Rattle.std.specs.Prelude.{map, slice_index}
use Rattle.std.specs.Ordering.{int_eq}
use Rattle.std.proofs.Math.IntN.{+ℤ_idr}
use Rattle.std.proofs.lemmas.Bool.Decides.{Decides-int_eq}
use Rattle.std.proofs.lemmas.Int.{ints}
use Rattle.std.proofs.lemmas.List.{ext_get_or, length-map, get_or-map}
use Rattle.domains.specs.Area.{HoldsPoint}
use Rattle.domains.specs.Span.{len_of, numbers_from}
use Rattle.domains.specs.declared.area.Area.{Area}
use Rattle.domains.proofs.Lengths.{len_is}
use Rattle.domains.proofs.Spans.{length-numbers_from}
use Rattle.operators.specs.declared.operator.ReductionOp.{ReductionOp}
use Rattle.job.specs.Formula.{Formula}
use Rattle.job.specs.Reads.{EachRead}
use Rattle.job.specs.Totals.{joined}
use Rattle.job.specs.Values.{Valuation, formula_value}
use Rattle.job.specs.WellFormed.{InDomainRange, IsFormula}
use Rattle.tile_eval.specs.Reading.{ReadsWithin}
use Rattle.tile_eval.specs.Rows.{EachPlace, at}
use Rattle.tile_eval.proofs.Gathering.{reads_along}
use Rattle.reductions.specs.Bins.{joined_bins}
use Rattle.reductions.specs.inside.FourRows.{column_joined, four_joined, four_rows_joined, values_of_row, HasBytesOfRows}
use Rattle.reductions.specs.inside.Gathering.{after_values, values_of_bin, values_among, points_from}
use Rattle.reductions.proofs.JoinInto.{at_joined}
use Rattle.reductions.proofs.TakeValues.{counted_held, not_here, values_next, counted_is, row_values, one_row, took_more}
use Rattle.reductions.proofs.TotalsInAnyOrder.{joined-assoc}

-- ---- rows of bytes

-- the row has the values of a formula at a row of an area
pub row_long : (env : Valuation) (f : Formula) (area : Area) (i : ℕ) (bytes : List ℕ) → map pos bytes ≡ values_of_row env f area i
    → length bytes ≡ len_of area.cols
row_long env f area i bytes is =
    sym (length-map bytes pos)
    ∙ ap length is
    ∙ length-map (numbers_from area.cols.lo (len_of area.cols)) (formula_value env f (area.rows.lo +ℤ pos i))
    ∙ length-numbers_from area.cols.lo (len_of area.cols)

-- joined rows of bytes, as those of the values
pub four_are_values : (way : ReductionOp) (env : Valuation) (f : Formula) (area : Area) (i : ℕ) (r : ℤ) (a e c d : List ℕ)
    → area.rows.lo +ℤ pos i ≡ r → HasBytesOfRows env f area i a e c d
    → four_rows_joined way (map pos a) (map pos e) (map pos c) (map pos d)
    ≡ four_rows_joined way (map (formula_value env f (r +ℤ pos 0)) (numbers_from area.cols.lo (len_of area.cols)))
    (map (formula_value env f (r +ℤ pos 1)) (numbers_from area.cols.lo (len_of area.cols)))
    (map (formula_value env f (r +ℤ pos 2)) (numbers_from area.cols.lo (len_of area.cols)))
    (map (formula_value env f (r +ℤ pos 3)) (numbers_from area.cols.lo (len_of area.cols)))
four_are_values way env f area i r a e c d first is =
    let along : ℤ → List ℤ = λ q. map (formula_value env f q) (numbers_from area.cols.lo (len_of area.cols)) in
    let at0 : area.rows.lo +ℤ pos i ≡ r +ℤ pos 0 = omega (arith, ints, first) in
    let at1 : area.rows.lo +ℤ pos (i + 1) ≡ r +ℤ pos 1 = omega (arith, ints, first) in
    let at2 : area.rows.lo +ℤ pos (i + 2) ≡ r +ℤ pos 2 = omega (arith, ints, first) in
    let at3 : area.rows.lo +ℤ pos (i + 3) ≡ r +ℤ pos 3 = omega (arith, ints, first) in
    (λ t. four_rows_joined way (is.first t) (is.second t) (is.third t) (is.fourth t))
    ∙ (λ t. four_rows_joined way (along (at0 t)) (along (at1 t)) (along (at2 t)) (along (at3 t)))

-- all that a formula reads along the row is there
pub row_reads : (has : ℕ → ℤ → ℤ → Type 0) (f : Formula) (area : Area) (i : ℕ) (r c : ℤ) (n : ℕ) → r ≡ area.rows.lo +ℤ pos i
    → c ≡ area.cols.lo → n ≡ len_of area.cols → InDomainRange area.rows → InDomainRange area.cols → i < len_of area.rows → IsFormula f
    → ((q d : ℤ) → HoldsPoint area q d → EachRead has f q d) → ReadsWithin has f r c n
row_reads has f area i r c n row col len rows cols below formula reads =
    let wide = len_is area.cols cols.span in
    let ordered = cols.span.ordered in
    let some : 0 < n = omega (arith, ints, wide, ordered, len) in
    reads_along has r c n f some formula (λ k l.
    subst (λ (q : ℤ). EachRead has f q (c +ℤ pos k)) (sym row)
    (subst (λ (d : ℤ). EachRead has f (area.rows.lo +ℤ pos i) (d +ℤ pos k)) (sym col)
    (reads (area.rows.lo +ℤ pos i) (area.cols.lo +ℤ pos k)
    (counted_held area.rows i rows.span below, counted_held area.cols k cols.span (omega (arith, l, len))))))

pub joined_long : (way : ReductionOp) (xs ys : List ℤ) (n : ℕ) → length xs ≡ n → length ys ≡ n → length (joined_bins way xs ys) ≡ n
joined_long way [] ys n e f = e
joined_long way (x ∷ xs) [] n e f = absurd (omega (arith, e, f))
joined_long way (x ∷ xs) (y ∷ ys) zero e f = absurd (omega (arith, e))
joined_long way (x ∷ xs) (y ∷ ys) (suc n) e f = ap suc (joined_long way xs ys n (omega (arith, e)) (omega (arith, f)))

module _ (way : ReductionOp) (a e c d : List ℕ) (e_long : length e ≡ length a) (c_long : length c ≡ length a) (d_long : length d ≡ length a) where
  abbrev two : List ℤ
  two = joined_bins way (map pos a) (map pos e)

  abbrev three : List ℤ
  three = joined_bins way two (map pos c)

  two_long : length two ≡ length a
  two_long = joined_long way (map pos a) (map pos e) (length a) (length-map a pos) (length-map e pos ∙ e_long)

  three_long : length three ≡ length a
  three_long = joined_long way two (map pos c) (length a) two_long (length-map c pos ∙ c_long)

  pub four_long : length (joined_bins way three (map pos d)) ≡ length a
  four_long = joined_long way three (map pos d) (length a) three_long (length-map d pos ∙ d_long)

  byte_at : (xs : List ℕ) → length xs ≡ length a → (k : ℕ) → k < length a → at (map pos xs) k ≡ pos (slice_index xs k)
  byte_at xs same k h = get_or-map pos xs k 0 (pos 0) (omega (arith, h, same))

  pub four_at : (k : ℕ) → k < length a → at (joined_bins way three (map pos d)) k
      ≡ four_joined way (pos (slice_index a k)) (pos (slice_index e k)) (pos (slice_index c k)) (pos (slice_index d k))
  four_at k h =
      at_joined way three (map pos d) k (omega (arith, h, three_long)) (length-map d pos ∙ d_long ∙ sym three_long)
      ∙ (λ i. joined way
      (at_joined way two (map pos c) k (omega (arith, h, two_long)) (length-map c pos ∙ c_long ∙ sym two_long) i)
      (byte_at d d_long k h i))
      ∙ (λ i. joined way (joined way
      (at_joined way (map pos a) (map pos e) k (omega (arith, h, length-map a pos)) (length-map e pos ∙ e_long ∙ sym (length-map a pos)) i)
      (byte_at c c_long k h i)) (pos (slice_index d k)))
      ∙ (λ i. joined way (joined way (joined way (byte_at a refl k h i) (byte_at e e_long k h i)) (pos (slice_index c k)))
      (pos (slice_index d k)))

-- a row that has what the bytes of each column of eight rows join to
pub eight_are_joined : (way : ReductionOp) (a e c d a2 e2 c2 d2 all : List ℕ) → length e ≡ length a → length c ≡ length a → length d ≡ length a
    → length a2 ≡ length a → length e2 ≡ length a2 → length c2 ≡ length a2 → length d2 ≡ length a2 → length all ≡ length a
    → EachPlace (length all) (λ k. pos (slice_index all k) ≡ joined way (column_joined way a e c d k) (column_joined way a2 e2 c2 d2 k))
    → map pos all ≡ joined_bins way (four_rows_joined way (map pos a) (map pos e) (map pos c) (map pos d))
    (four_rows_joined way (map pos a2) (map pos e2) (map pos c2) (map pos d2))
eight_are_joined way a e c d a2 e2 c2 d2 all e_long c_long d_long a2_long e2_long c2_long d2_long long each =
    let upper = four_rows_joined way (map pos a) (map pos e) (map pos c) (map pos d) in
    let lower = four_rows_joined way (map pos a2) (map pos e2) (map pos c2) (map pos d2) in
    let upper_long : length upper ≡ length a = four_long way a e c d e_long c_long d_long in
    let lower_long : length lower ≡ length a = four_long way a2 e2 c2 d2 e2_long c2_long d2_long ∙ a2_long in
    let both = joined_long way upper lower (length a) upper_long lower_long in
    ext_get_or (pos 0) (map pos all) (joined_bins way upper lower) (length-map all pos ∙ long ∙ sym both) (λ k h.
    let there : k < length a = omega (arith, h, long, length-map all pos) in
    get_or-map pos all k 0 (pos 0) (omega (arith, there, long))
    ∙ each k (omega (arith, there, long))
    ∙ (λ i. joined way (sym (four_at way a e c d e_long c_long d_long k there) i)
    (sym (four_at way a2 e2 c2 d2 e2_long c2_long d2_long k (omega (arith, there, a2_long))) i))
    ∙ sym (at_joined way upper lower k (omega (arith, there, upper_long)) (lower_long ∙ sym upper_long)))

-- ---- adjacent bins

-- adjacent bins behind bin b have no value of it
none_behind : (vs : List ℤ) (b start : ℤ) (n : ℕ) → b <ℤ start → values_of_bin vs (numbers_from start n) b ≡ []
none_behind [] b start n h = refl
none_behind (v ∷ vs) b start zero h = refl
none_behind (v ∷ vs) b start (suc n) h =
    let rest = values_of_bin vs (numbers_from (start +ℤ pos 1) n) b in
    let ne : start ≡ b → ⊥ = λ e. omega (arith, ints, e, h) in
    values_next v start vs (numbers_from (start +ℤ pos 1) n) b
    ∙ ap (λ (here : Bool). cond here (v ∷ rest) rest) (not_here b start ne)
    ∙ none_behind vs b (start +ℤ pos 1) n (omega (arith, ints, h))

-- a column of two rows that is joined first, and those behind it
module _ (way : ReductionOp) (x y : ℤ) (xs ys : List ℤ) (n : ℕ) (start b t : ℤ) where
  abbrev behind : List ℤ → List ℤ
  behind vs = values_of_bin vs (numbers_from (start +ℤ pos 1) n) b

  abbrev all : List ℤ → List ℤ
  all vs = values_of_bin vs (numbers_from start (suc n)) b

  here_is : (here : Bool) → int_eq start b ≡ here → (v : ℤ) (vs : List ℤ) → all (v ∷ vs) ≡ cond here (v ∷ behind vs) (behind vs)
  here_is here is v vs =
      values_next v start vs (numbers_from (start +ℤ pos 1) n) b
      ∙ ap (λ (h : Bool). cond h (v ∷ behind vs) (behind vs)) is

  none : int_eq start b ≡ true → (vs : List ℤ) → behind vs ≡ []
  none is vs =
      let same : start ≡ b = (Decides-int_eq start b).0 is in
      none_behind vs b (start +ℤ pos 1) n (omega (arith, ints, same))

  column_first : (here : Bool) → int_eq start b ≡ here
      → after_values way t (behind (joined_bins way xs ys)) ≡ after_values way (after_values way t (behind xs)) (behind ys)
      → after_values way t (all (joined way x y ∷ joined_bins way xs ys)) ≡ after_values way (after_values way t (all (x ∷ xs))) (all (y ∷ ys))
  column_first true is rest =
      let one : (v : ℤ) (vs : List ℤ) → all (v ∷ vs) ≡ v ∷ [] = λ v vs. here_is true is v vs ∙ ap (λ (zs : List ℤ). v ∷ zs) (none is vs) in
      ap (after_values way t) (one (joined way x y) (joined_bins way xs ys))
      ∙ sym (joined-assoc way t x y)
      ∙ ap (after_values way (joined way t x)) (sym (one y ys))
      ∙ ap (λ (zs : List ℤ). after_values way (after_values way t zs) (all (y ∷ ys))) (sym (one x xs))
  column_first false is rest =
      ap (after_values way t) (here_is false is (joined way x y) (joined_bins way xs ys))
      ∙ rest
      ∙ ap (after_values way (after_values way t (behind xs))) (sym (here_is false is y ys))
      ∙ ap (λ (zs : List ℤ). after_values way (after_values way t zs) (all (y ∷ ys))) (sym (here_is false is x xs))

-- two rows that are joined first, as one after the other
two_rows : (way : ReductionOp) (xs ys : List ℤ) (n : ℕ) (start b t : ℤ) → length xs ≡ n → length ys ≡ n
    → after_values way t (values_of_bin (joined_bins way xs ys) (numbers_from start n) b)
    ≡ after_values way (after_values way t (values_of_bin xs (numbers_from start n) b)) (values_of_bin ys (numbers_from start n) b)
two_rows way [] [] n start b t e f = refl
two_rows way [] (y ∷ ys) n start b t e f = absurd (omega (arith, e, f))
two_rows way (x ∷ xs) [] n start b t e f = absurd (omega (arith, e, f))
two_rows way (x ∷ xs) (y ∷ ys) zero start b t e f = absurd (omega (arith, e))
two_rows way (x ∷ xs) (y ∷ ys) (suc n) start b t e f =
    column_first way x y xs ys n start b t (int_eq start b) refl
    (two_rows way xs ys n (start +ℤ pos 1) b t (omega (arith, e)) (omega (arith, f)))

-- values of points whose bins are adjacent, and the same in four rows
module _ (way : ReductionOp) (value bin : ℤ → ℤ → ℤ) (r c start : ℤ) (n : ℕ)
    (there : (m k : ℕ) → m < 4 → k < n → bin (r +ℤ pos m) (c +ℤ pos k) ≡ start +ℤ pos k) (b : ℤ) where
  abbrev pub row : ℕ → List ℤ
  row m = map (value (r +ℤ pos m)) (numbers_from c n)

  long : (m : ℕ) → length (row m) ≡ n
  long m = length-map (numbers_from c n) (value (r +ℤ pos m)) ∙ length-numbers_from c n

  abbrev of_bin : List ℤ → List ℤ
  of_bin vs = values_of_bin vs (numbers_from start n) b

  abbrev after_row : ℤ → ℕ → ℤ
  after_row t m = after_values way t (of_bin (row m))

  row_is : (t : ℤ) (m : ℕ) → m < 4 → after_row t m ≡ after_values way t (values_among value bin (points_from (r +ℤ pos m) 1 c n) b)
  row_is t m h =
      let here = r +ℤ pos m in
      ap (λ (cs : List ℤ). after_values way t (values_of_bin (row m) cs b)) (counted_is (bin here) c start n (λ k l. there m k h l))
      ∙ ap (after_values way t) (row_values value bin b here c n)
      ∙ ap (λ (ps : List (ℤ × ℤ)). after_values way t (values_among value bin ps b)) (sym (one_row here c n))

  in_turn : (t : ℤ) → after_values way t (of_bin (four_rows_joined way (row 0) (row 1) (row 2) (row 3)))
      ≡ after_row (after_row (after_row (after_row t 0) 1) 2) 3
  in_turn t =
      let two = joined_bins way (row 0) (row 1) in
      let three = joined_bins way two (row 2) in
      let two_long = joined_long way (row 0) (row 1) n (long 0) (long 1) in
      two_rows way three (row 3) n start b t (joined_long way two (row 2) n two_long (long 2)) (long 3)
      ∙ ap (λ (z : ℤ). after_row z 3) (two_rows way two (row 2) n start b t two_long (long 2))
      ∙ ap (λ (z : ℤ). after_row (after_row z 2) 3) (two_rows way (row 0) (row 1) n start b t (long 0) (long 1))

  -- the bin took in all points of the four rows
  pub four_rows_took : (t : ℤ) → after_values way t (values_of_bin (four_rows_joined way (row 0) (row 1) (row 2) (row 3)) (numbers_from start n) b)
      ≡ after_values way t (values_among value bin (points_from r 4 c n) b)
  four_rows_took t =
      let t1 = after_row t 0 in
      let t2 = after_row t1 1 in
      let t3 = after_row t2 2 in
      let one = row_is t 0 (omega arith) in
      let first : t1 ≡ after_values way t (values_among value bin (points_from r 1 c n) b) =
      one ∙ ap (λ (z : ℤ). after_values way t (values_among value bin (points_from z 1 c n) b)) (+ℤ_idr r) in
      in_turn t
      ∙ took_more way value bin b r c n 3 1 t t3 (after_row t3 3)
      (took_more way value bin b r c n 2 1 t t2 t3
      (took_more way value bin b r c n 1 1 t t1 t2 first (row_is t1 1 (omega arith)))
      (row_is t2 2 (omega arith)))
      (row_is t3 3 (omega arith))

  pub four_rows_long : length (four_rows_joined way (row 0) (row 1) (row 2) (row 3)) ≡ n
  four_rows_long =
      joined_long way (joined_bins way (joined_bins way (row 0) (row 1)) (row 2)) (row 3) n
      (joined_long way (joined_bins way (row 0) (row 1)) (row 2) n (joined_long way (row 0) (row 1) n (long 0) (long 1)) (long 2)) (long 3)

-- and in eight rows
module _ (way : ReductionOp) (value bin : ℤ → ℤ → ℤ) (r c start : ℤ) (n : ℕ)
    (there : (m k : ℕ) → m < 8 → k < n → bin (r +ℤ pos m) (c +ℤ pos k) ≡ start +ℤ pos k) (b : ℤ) where
  abbrev pub lower_row : ℕ → List ℤ
  lower_row m = map (value (r +ℤ pos 4 +ℤ pos m)) (numbers_from c n)

  abbrev pub upper_row : ℕ → List ℤ
  upper_row m = map (value (r +ℤ pos m)) (numbers_from c n)

  above : (m k : ℕ) → m < 4 → k < n → bin (r +ℤ pos m) (c +ℤ pos k) ≡ start +ℤ pos k
  above m k h l = there m k (omega (arith, h)) l

  beneath : (m k : ℕ) → m < 4 → k < n → bin (r +ℤ pos 4 +ℤ pos m) (c +ℤ pos k) ≡ start +ℤ pos k
  beneath m k h l =
      let same : r +ℤ pos 4 +ℤ pos m ≡ r +ℤ pos (4 + m) = omega (arith, ints) in
      ap (λ (z : ℤ). bin z (c +ℤ pos k)) same ∙ there (4 + m) k (omega (arith, h)) l

  pub eight_rows_took : (t : ℤ) → after_values way t (values_of_bin (joined_bins way
      (four_rows_joined way (upper_row 0) (upper_row 1) (upper_row 2) (upper_row 3))
      (four_rows_joined way (lower_row 0) (lower_row 1) (lower_row 2) (lower_row 3))) (numbers_from start n) b)
      ≡ after_values way t (values_among value bin (points_from r 8 c n) b)
  eight_rows_took t =
      let upper = four_rows_joined way (upper_row 0) (upper_row 1) (upper_row 2) (upper_row 3) in
      let lower = four_rows_joined way (lower_row 0) (lower_row 1) (lower_row 2) (lower_row 3) in
      let half = after_values way t (values_of_bin upper (numbers_from start n) b) in
      two_rows way upper lower n start b t (four_rows_long way value bin r c start n above b)
      (four_rows_long way value bin (r +ℤ pos 4) c start n beneath b)
      ∙ took_more way value bin b r c n 4 4 t half (after_values way half (values_of_bin lower (numbers_from start n) b))
      (four_rows_took way value bin r c start n above b t) (four_rows_took way value bin (r +ℤ pos 4) c start n beneath b half)
