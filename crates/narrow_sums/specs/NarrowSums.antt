-- Sums along a row of points that are gathered addend by addend.
use Rattle.std.specs.Prelude.{ℕ, ◌≡◌, ◌≤◌, ℤ, pos, ◌+ℤ◌, ◌-ℤ◌, neg_ℤ, Bool, true, false, List, length, take}
use Rattle.std.specs.Int.{w16, int_wrap}
use Rattle.row_loops.specs.Rows.{EachPlace, at}
use Rattle.narrow_kernels.specs.NarrowTaps.{tap_sum, HaveTapLines}
use Rattle.narrow_kernels.specs.NarrowDifferences.{narrow_difference_sum, HaveDifferenceLines}
use Rattle.operators.specs.declared.operator.BinaryOp.{BinaryOp}
use Rattle.operators.specs.declared.operator.BinaryOp.TheVariants.{Add, Sub, Mul, Min, Max}
use Rattle.narrow_sums.specs.declared.narrow_sum.NarrowSum.{NarrowSum}

-- two numbers are the same once they are wrapped at 16 bits
abbrev pub Same16 : ℤ → ℤ → Type 0
Same16 a b = int_wrap w16 a ≡ int_wrap w16 b

-- an operator adds or subtracts its right operand
abbrev pub adds : BinaryOp → Bool
adds Add = true
adds Sub = true
adds Mul = false
adds Min = false
adds Max = false

-- a factor, with the other sign if the operator subtracts
abbrev pub signed : BinaryOp → ℤ → ℤ
signed Add n = n
signed Sub n = neg_ℤ n
signed Mul n = n
signed Min n = n
signed Max n = n

-- what the addends that are not in the row yet are at place k
abbrev pub waiting_at : NarrowSum → ℕ → ℤ
waiting_at sum k = tap_sum (take sum.tap_count sum.taps) k +ℤ narrow_difference_sum (take sum.difference_count sum.differences) k

-- there is space for nine taps and four clamped differences
pub record HasSpace (sum : NarrowSum) : Type 0 where
  pub taps : length sum.taps ≡ 9
  pub differences : length sum.differences ≡ 4

-- the addends are no more than there is space for, and each of their lines has n numbers
pub record HasAddends (n : ℕ) (sum : NarrowSum) : Type 0 where
  pub space : HasSpace sum
  pub tap_count : sum.tap_count ≤ 9
  pub taps : HaveTapLines n (take sum.tap_count sum.taps)
  pub difference_count : sum.difference_count ≤ 4
  pub differences : HaveDifferenceLines n (take sum.difference_count sum.differences)

-- a row that is written has the rest of a sum, wrapped; else the rest is 0
abbrev pub IsRest : Bool → ℤ → ℤ → Type 0
IsRest true x rest = x ≡ int_wrap w16 rest
IsRest false x rest = Same16 rest (pos 0)

-- with the numbers of a row of n places the sum is f, wrapped at 16 bits
abbrev pub GivesSum : ℕ → (ℕ → ℤ) → NarrowSum → List ℤ → Type 0
GivesSum n f sum out = EachPlace n (λ k. IsRest sum.is_written (at out k) (f k -ℤ waiting_at sum k))
