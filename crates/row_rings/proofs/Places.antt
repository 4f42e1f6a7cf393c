-- Places of numbers along a row that is kept.
use Rattle.std.proofs.Common.{arith, ℕ, ℤ, pos, ◌≡◌, ◌+◌, ◌-◌, ◌<◌, ◌≤◌, ◌⊎◌, inl, inr, ◌+ℤ◌, ◌≤ℤ◌, true, List, ◌++◌, Some, get_or, slice_get, length, take, drop, ap, ◌∙◌, sym, subst}
use Rattle.std.specs.Prelude.{slice_index_or}
use Rattle.std.specs.Int.{int_gap}
use Rattle.std.proofs.Math.IntN.{+ℤ_idr}
use Rattle.std.proofs.Math.Dec.{ltb}
use Rattle.std.proofs.lemmas.Bool.{cases_lt, ltb-true}
use Rattle.std.proofs.lemmas.Grind.{common_steps}
use Rattle.std.proofs.lemmas.Int.{ints}
use Rattle.std.proofs.lemmas.Option.{slice_get-get_or}
use Rattle.domains.proofs.Lengths.{gap_is}
use Rattle.domains.specs.Index.{Scale, IsIndex, index_at}
use Rattle.domains.specs.Span.{Ends, Holds}
use Rattle.row_kernels.specs.Columns.{column_gap}
use Rattle.row_kernels.proofs.Columns.{gap_goes}
use Rattle.row_loops.specs.Rows.{EachPlace, at}

-- what a list has at a place within it
pub found_at : {X : Type 0} (xs : List X) (n : ℕ) (x : X) → true ≡ ltb n (length xs) → x ≡ get_or xs n x → slice_get xs n ≡ Some x
found_at xs n x within is = slice_get-get_or xs n x (ltb-true n (length xs) (sym within)) ∙ ap Some (sym is)

-- what holds of the first n numbers and of n
pub each_more : (P : ℕ → Type 0) (n : ℕ) → ((g : ℕ) → g < n → P g) → P n → (g : ℕ) → g < n + 1 → P g
each_more P n each last g h = by (cases_lt g n)
  where
    by : (g < n) ⊎ (n ≤ g) → P g
    by (inl below) = each g below
    by (inr above) = let same : n ≡ g = omega arith in subst P same last

-- a number that lies k further on
pub gap_along : (a b : ℤ) (k : ℕ) → a ≤ℤ b → int_gap a (b +ℤ pos k) ≡ int_gap a b + k
gap_along a b k low = omega (arith, ints, gap_is a b low, gap_is a (b +ℤ pos k) (omega (arith, ints)))

le_same : (a : ℤ) → a ≤ℤ a
le_same a = omega (arith, ints)

pub gap_none : (a : ℤ) → int_gap a a ≡ 0
gap_none a = omega (arith, ints, gap_is a a (le_same a))

pub gap_nth : (a : ℤ) (k : ℕ) → int_gap a (a +ℤ pos k) ≡ k
gap_nth a k = omega (arith, gap_along a a k (le_same a), gap_none a)

-- a part of a line
pub number_part : {T : Type 0} (d : T) (line : List T) (from n k : ℕ) → k < n
    → slice_index_or (take (from + n - from) (drop from line)) k d ≡ slice_index_or line (from + k) d
number_part d line from n k h = grind (arith, common_steps)

-- a line that is written anew
pub at_refilled : (out rest : List ℤ) (n k : ℕ) → k < length out → k < n → at (take n (out ++ rest)) k ≡ at out k
at_refilled out rest n k h l = grind (arith, common_steps)

pub refilled : (out line : List ℤ) (n : ℕ) → length out ≡ n → n ≡ length line → length (take n (out ++ drop (length out) line)) ≡ length line
refilled out line n h e = grind (arith, common_steps)

pub part_is : {T : Type 0} (d : T) (line : List T) (low first : ℤ) (from n k : ℕ) → low ≤ℤ first → from ≡ int_gap low first → k < n
    → slice_index_or (take (from + n - from) (drop from line)) k d ≡ slice_index_or line (int_gap low (first +ℤ pos k)) d
part_is d line low first from n k le is h =
    let along : from + k ≡ int_gap low (first +ℤ pos k) = omega (arith, is, gap_along low first k le) in
    number_part d line from n k h ∙ ap (λ p. slice_index_or line p d) along

-- the places of the columns that an index takes
pub gathered_place : (cols : Ends) (x : Scale) (c : ℤ) (n from : ℕ) → IsIndex x → from ≡ int_gap cols.lo (index_at x c)
    → EachPlace n (λ k. Holds cols (index_at x (c +ℤ pos k))) → (k : ℕ) → k < n
    → from + column_gap x c k ≡ int_gap cols.lo (index_at x (c +ℤ pos k))
gathered_place cols x c n from i is each k l =
    let some : 0 < n = omega arith in
    let low : cols.lo ≤ℤ index_at x c = subst (λ (z : ℤ). cols.lo ≤ℤ index_at x z) (+ℤ_idr c) (each 0 some).0 in
    ap (λ (p : ℕ). p + column_gap x c k) is ∙ sym (gap_along cols.lo (index_at x c) (column_gap x c k) low)
    ∙ ap (int_gap cols.lo) (sym (gap_goes x c i k))
