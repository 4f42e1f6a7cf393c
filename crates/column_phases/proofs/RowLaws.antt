-- Laws of the rows of phases, one after the other.
use Rattle.std.proofs.Common.{arith, ℕ, zero, suc, ℤ, ◌≡◌, ◌+◌, ◌-◌, ◌*◌, ◌/◌, ◌%◌, ◌<◌, ◌≤◌, pos, negsuc, ◌+ℤ◌, ◌≤ℤ◌, List, length, take, drop, ap, sym, refl, subst, ◌∙◌}
use Rattle.std.specs.Prelude.{slice_index_or}
use Rattle.std.proofs.Math.IntN.{*ℤ_comm}
use Rattle.std.proofs.lemmas.Int.{ints, by_lt_z}
use Rattle.std.proofs.lemmas.List.{get_or-take, get_or-drop, length-take, length-drop}
use Rattle.std.proofs.lemmas.Nat.{div-add-mod'}
use Rattle.domains.specs.Arithmetic.{floor_div, floor_rem}
use Rattle.domains.proofs.Floors.{floor_splits}
use Rattle.row_kernels.proofs.Columns.{times_further}
use Rattle.row_loops.specs.Rows.{EachPlace}
use Rattle.column_phases.specs.Phases.{column_of}
use Rattle.column_phases.specs.inside.Rows.{places_from, row_start, row_place}

-- ---- small numbers

pub by_period : (Q : ℕ → Type 0) → Q 2 → Q 3 → Q 4 → (P : ℕ) → 2 ≤ P → P ≤ 4 → Q P
by_period Q two three four P least most =
    by_lt_z (pos P) (pos 3) (λ h. let e : 2 ≡ P = omega (arith, ints, h, least) in subst Q e two) (λ h.
    by_lt_z (pos P) (pos 4) (λ l. let e : 3 ≡ P = omega (arith, ints, h, l) in subst Q e three) (λ l.
    let e : 4 ≡ P = omega (arith, ints, l, most) in subst Q e four))

by_two : (Q : ℕ → Type 0) → Q 0 → Q 1 → (o : ℕ) → o < 2 → Q o
by_two Q none one o h =
    by_lt_z (pos o) (pos 1) (λ l. let e : 0 ≡ o = omega (arith, ints, l) in subst Q e none) (λ l.
    let e : 1 ≡ o = omega (arith, ints, l, h) in subst Q e one)

by_three : (Q : ℕ → Type 0) → Q 0 → Q 1 → Q 2 → (o : ℕ) → o < 3 → Q o
by_three Q none one two o h =
    by_lt_z (pos o) (pos 2) (λ l. by_two Q none one o (omega (arith, ints, l))) (λ l.
    let e : 2 ≡ o = omega (arith, ints, l, h) in subst Q e two)

by_four : (Q : ℕ → Type 0) → Q 0 → Q 1 → Q 2 → Q 3 → (o : ℕ) → o < 4 → Q o
by_four Q none one two three o h =
    by_lt_z (pos o) (pos 3) (λ l. by_three Q none one two o (omega (arith, ints, l))) (λ l.
    let e : 3 ≡ o = omega (arith, ints, l, h) in subst Q e three)

-- ---- places

-- the number of place k is one of its row
pub in_row : (P : ℕ) → 2 ≤ P → P ≤ 4 → (n k : ℕ) → k < n → k / P < places_from P n (k % P)
in_row P least most =
    by_period (λ P. (n k : ℕ) → k < n → k / P < places_from P n (k % P)) (λ n k h. omega (arith, h)) (λ n k h. omega (arith, h))
    (λ n k h. omega (arith, h)) P least most

pub rest_below : (P : ℕ) → 2 ≤ P → P ≤ 4 → (k : ℕ) → k % P < P
rest_below P least most = by_period (λ P. (k : ℕ) → k % P < P) (λ k. omega arith) (λ k. omega arith) (λ k. omega arith) P least most

-- each row has a number, where there are as many places as rows
pub row_some : (P : ℕ) → 2 ≤ P → P ≤ 4 → (n o : ℕ) → P ≤ n → o < P → 0 < places_from P n o
row_some P least most =
    by_period (λ P. (n o : ℕ) → P ≤ n → o < P → 0 < places_from P n o) (λ n o h l. omega (arith, h, l)) (λ n o h l. omega (arith, h, l))
    (λ n o h l. omega (arith, h, l)) P least most

-- number q of a row has a place
pub place_of_row : (P : ℕ) → 2 ≤ P → P ≤ 4 → (n o q : ℕ) → o < P → q < places_from P n o → o + q * P < n
place_of_row P least most =
    by_period (λ P. (n o q : ℕ) → o < P → q < places_from P n o → o + q * P < n) (λ n o q h l. omega (arith, h, l))
    (λ n o q h l. omega (arith, h, l)) (λ n o q h l. omega (arith, h, l)) P least most

pub row_short : (P : ℕ) → 2 ≤ P → P ≤ 4 → (n o : ℕ) → P ≤ n → o < P → places_from P n o ≤ n
row_short P least most =
    by_period (λ P. (n o : ℕ) → P ≤ n → o < P → places_from P n o ≤ n) (λ n o h l. omega (arith, h, l)) (λ n o h l. omega (arith, h, l))
    (λ n o h l. omega (arith, h, l)) P least most

-- the rows have as many numbers as there are places
pub rows_end : (P : ℕ) → 2 ≤ P → P ≤ 4 → (n o : ℕ) → o < P → row_start P n (suc o) ≤ n
rows_end P least most =
    by_period (λ P. (n o : ℕ) → o < P → row_start P n (suc o) ≤ n)
    (λ n. by_two (λ o. row_start 2 n (suc o) ≤ n) (omega arith) (omega arith))
    (λ n. by_three (λ o. row_start 3 n (suc o) ≤ n) (omega arith) (omega arith) (omega arith))
    (λ n. by_four (λ o. row_start 4 n (suc o) ≤ n) (omega arith) (omega arith) (omega arith) (omega arith)) P least most

-- rows before a place have their numbers before it
pub place_before : (P : ℕ) → 2 ≤ P → P ≤ 4 → (n k o : ℕ) → k < n → k % P < o → row_place P n k < row_start P n o
place_before P least most n k zero h l = absurd (omega (arith, l))
place_before P least most n k (suc o) h l =
    by_lt_z (pos (k % P)) (pos o)
    (λ less. let before = place_before P least most n k o h (omega (arith, ints, less)) in omega (arith, before))
    (λ more.
    let e : k % P ≡ o = omega (arith, ints, more, l) in
    let there = in_row P least most n k h in
    subst (λ (x : ℕ). row_place P n k < row_start P n (suc x)) e (omega (arith, there)))

-- the points of a row are ones that a program can have
pub part_within : (P : ℕ) → 2 ≤ P → P ≤ 4 → (n o : ℕ) (c j : ℤ) → o < P → o < n → negsuc 16383 ≤ℤ c → (c +ℤ pos n) ≤ℤ pos 16385
    → j ≡ floor_div (c +ℤ pos o) (pos P) → (negsuc 16383 ≤ℤ j) × ((j +ℤ pos (places_from P n o)) ≤ℤ pos 16385)
part_within P least most =
    by_period
    (λ P. (n o : ℕ) (c j : ℤ) → o < P → o < n → negsuc 16383 ≤ℤ c → (c +ℤ pos n) ≤ℤ pos 16385
    → j ≡ floor_div (c +ℤ pos o) (pos P) → (negsuc 16383 ≤ℤ j) × ((j +ℤ pos (places_from P n o)) ≤ℤ pos 16385))
    (λ n o c j h l low high is. let f = floor_splits (c +ℤ pos o) (pos 2) (omega (arith, ints)) in (
      omega (arith, ints, f.split, f.least, f.below, h, l, low, high, is),
      omega (arith, ints, f.split, f.least, f.below, h, l, low, high, is),
    ))
    (λ n o c j h l low high is. let f = floor_splits (c +ℤ pos o) (pos 3) (omega (arith, ints)) in (
      omega (arith, ints, f.split, f.least, f.below, h, l, low, high, is),
      omega (arith, ints, f.split, f.least, f.below, h, l, low, high, is),
    ))
    (λ n o c j h l low high is. let f = floor_splits (c +ℤ pos o) (pos 4) (omega (arith, ints)) in (
      omega (arith, ints, f.split, f.least, f.below, h, l, low, high, is),
      omega (arith, ints, f.split, f.least, f.below, h, l, low, high, is),
    ))
    P least most

-- ---- columns

-- number q of the row of place o is that of column o + q * P
pub row_column : (P rest o q : ℕ) (col : ℤ) → 0 < P → pos rest ≡ floor_rem (col +ℤ pos o) (pos P)
    → column_of P rest (floor_div (col +ℤ pos o) (pos P) +ℤ pos q) ≡ col +ℤ pos (o + q * P)
row_column P rest o q col some is =
    let f = floor_splits (col +ℤ pos o) (pos P) (omega (arith, ints)) in
    let spread = times_further P (floor_div (col +ℤ pos o) (pos P)) q in
    let turned = *ℤ_comm (pos P) (floor_div (col +ℤ pos o) (pos P)) in
    omega (arith, ints, f.split, spread, turned, is)

pub place_split : (P k : ℕ) → k % P + k / P * P ≡ k
place_split P k = let parts = div-add-mod' k P in omega (arith, parts)

-- ---- weaving

module _ {X : Type 0} (d : X) (out rows : List X) (n : ℕ) (count : length rows ≡ n) where
  -- a number of a row is written at each of its places
  abbrev pub Given : (ℕ → ℕ) → List X → Type 0
  Given to line = EachPlace (length line) (λ q. slice_index_or out (to q) d ≡ slice_index_or line q d)

  abbrev Kept : ℕ → List X → Type 0
  Kept from line = (q : ℕ) → q < length line → slice_index_or line q d ≡ slice_index_or rows (from + q) d

  abbrev pub Woven : ℕ → ℕ → Type 0
  Woven P k = slice_index_or out k d ≡ slice_index_or rows (row_place P n k) d

  -- the number of place k of row o
  woven : (P o k : ℕ) (to : ℕ → ℕ) (line : List X) → k % P ≡ o → to (k / P) ≡ k → k / P < length line → Given to line → Kept (row_start P n o) line
      → Woven P k
  woven P o k to line rest e short given kept =
      subst (λ (x : ℕ). slice_index_or out x d ≡ slice_index_or line (k / P) d) e (given (k / P) short) ∙ kept (k / P) short
      ∙ ap (λ (x : ℕ). slice_index_or rows (row_start P n x + k / P) d) (sym rest)

  kept_whole : Kept 0 rows
  kept_whole = λ q h. let same : q ≡ 0 + q = omega arith in ap (λ (x : ℕ). slice_index_or rows x d) same

  kept_front : (s from : ℕ) (xs : List X) → Kept from xs → Kept from (take s xs)
  kept_front s from xs kept = λ q h.
      let len = length-take s xs in
      get_or-take s xs q d (omega (arith, h, len)) ∙ kept q (omega (arith, h, len))

  kept_back : (s from to : ℕ) (xs : List X) → from + s ≡ to → Kept from xs → Kept to (drop s xs)
  kept_back s from to xs e kept = λ q h.
      let len = length-drop s xs in
      let same : from + (s + q) ≡ to + q = omega (arith, e) in
      get_or-drop s xs q d ∙ kept (s + q) (omega (arith, h, len)) ∙ ap (λ (x : ℕ). slice_index_or rows x d) same

  pub woven_two : (s : ℕ) → s ≡ n - n / 2 → Given (λ q. 2 * q) (take s rows) → Given (λ q. 2 * q + 1) (drop s rows) → EachPlace n (Woven 2)
  woven_two s is a b = λ k h.
      let first = length-take s rows in
      let second = length-drop s rows in
      by_two (λ o. k % 2 ≡ o → Woven 2 k)
      (λ e. woven 2 0 k (λ q. 2 * q) (take s rows) e (omega (arith, e)) (omega (arith, e, h, first, is, count)) a (kept_front s 0 rows kept_whole))
      (λ e. woven 2 1 k (λ q. 2 * q + 1) (drop s rows) e (omega (arith, e)) (omega (arith, e, h, second, is, count)) b
      (kept_back s 0 (row_start 2 n 1) rows (omega (arith, is)) kept_whole)) (k % 2) (omega arith) refl

  pub woven_three : (s t : ℕ) → s ≡ n - n / 3 → t ≡ s - s / 2 → Given (λ q. 3 * q) (take t (take s rows))
      → Given (λ q. 3 * q + 1) (drop t (take s rows)) → Given (λ q. 3 * q + 2) (drop s rows) → EachPlace n (Woven 3)
  woven_three s t is it a b c = λ k h.
      let front = length-take s rows in
      let third = length-drop s rows in
      let first = length-take t (take s rows) in
      let second = length-drop t (take s rows) in
      let before = kept_front s 0 rows kept_whole in
      by_three (λ o. k % 3 ≡ o → Woven 3 k)
      (λ e. woven 3 0 k (λ q. 3 * q) (take t (take s rows)) e (omega (arith, e)) (omega (arith, e, h, front, first, is, it, count)) a
      (kept_front t 0 (take s rows) before))
      (λ e. woven 3 1 k (λ q. 3 * q + 1) (drop t (take s rows)) e (omega (arith, e)) (omega (arith, e, h, front, second, is, it, count)) b
      (kept_back t 0 (row_start 3 n 1) (take s rows) (omega (arith, is, it)) before))
      (λ e. woven 3 2 k (λ q. 3 * q + 2) (drop s rows) e (omega (arith, e)) (omega (arith, e, h, third, is, count)) c
      (kept_back s 0 (row_start 3 n 2) rows (omega (arith, is)) kept_whole)) (k % 3) (omega arith) refl

  pub woven_four : (s t u : ℕ) → s ≡ n - n / 4 → t ≡ s - s / 3 → u ≡ t - t / 2 → Given (λ q. 4 * q) (take u (take t (take s rows)))
      → Given (λ q. 4 * q + 1) (drop u (take t (take s rows))) → Given (λ q. 4 * q + 2) (drop t (take s rows))
      → Given (λ q. 4 * q + 3) (drop s rows) → EachPlace n (Woven 4)
  woven_four s t u is it iu a b c f = λ k h.
      let most = length-take s rows in
      let fourth = length-drop s rows in
      let front = length-take t (take s rows) in
      let third = length-drop t (take s rows) in
      let first = length-take u (take t (take s rows)) in
      let second = length-drop u (take t (take s rows)) in
      let whole = kept_front s 0 rows kept_whole in
      let before = kept_front t 0 (take s rows) whole in
      by_four (λ o. k % 4 ≡ o → Woven 4 k)
      (λ e. woven 4 0 k (λ q. 4 * q) (take u (take t (take s rows))) e (omega (arith, e))
      (omega (arith, e, h, most, front, first, is, it, iu, count)) a (kept_front u 0 (take t (take s rows)) before))
      (λ e. woven 4 1 k (λ q. 4 * q + 1) (drop u (take t (take s rows))) e (omega (arith, e))
      (omega (arith, e, h, most, front, second, is, it, iu, count)) b
      (kept_back u 0 (row_start 4 n 1) (take t (take s rows)) (omega (arith, is, it, iu)) before))
      (λ e. woven 4 2 k (λ q. 4 * q + 2) (drop t (take s rows)) e (omega (arith, e)) (omega (arith, e, h, most, third, is, it, count)) c
      (kept_back t 0 (row_start 4 n 2) (take s rows) (omega (arith, is, it)) whole))
      (λ e. woven 4 3 k (λ q. 4 * q + 3) (drop s rows) e (omega (arith, e)) (omega (arith, e, h, fourth, is, count)) f
      (kept_back s 0 (row_start 4 n 3) rows (omega (arith, is)) kept_whole)) (k % 4) (omega arith) refl
