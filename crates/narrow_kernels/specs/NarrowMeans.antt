-- Means of nine numbers: of three lines, at three adjacent places each.
use Rattle.std.specs.Prelude.{ℕ, ◌+◌, ℤ, pos, negsuc, ◌+ℤ◌, ◌*ℤ◌, ◌≤ℤ◌, ◌≡◌, List}
use Rattle.domains.specs.Arithmetic.{wrapped, floor_div}
use Rattle.row_loops.specs.Rows.{at}

-- the sum of the numbers of three lines at a place
abbrev pub column_sum : (a b c : List ℤ) → ℕ → ℤ
column_sum a b c k = at a k +ℤ at b k +ℤ at c k

-- the mean of the numbers at this place and at the two that follow it, rounded down. Their sum is wrapped at 32 bits, which changes
-- no sum of numbers of 16 bits
abbrev pub mean_of_nine : (a b c : List ℤ) → ℕ → ℤ
mean_of_nine a b c k = floor_div (wrapped (column_sum a b c k +ℤ column_sum a b c (k + 1) +ℤ column_sum a b c (k + 2))) (pos 9)

-- three such numbers have a sum that fits in 16 bits
abbrev pub IsSmall : ℤ → Type 0
IsSmall z = (negsuc 6143 ≤ℤ z) × (z ≤ℤ pos 6143)

-- where sums of three ninth parts of numbers of 16 bits lie, which are hardly too low, and what they leave
abbrev pub IsNinth : ℤ → Type 0
IsNinth z = (negsuc 10925 ≤ℤ z) × (z ≤ℤ pos 10922)

abbrev pub IsRest : ℤ → Type 0
IsRest z = (pos 0 ≤ℤ z) × (z ≤ℤ pos 27)

-- these parts make a sum of three numbers of 16 bits
abbrev pub AreColumnParts : (ninth rest : ℤ) → Type 0
AreColumnParts ninth rest = IsRest rest × ((negsuc 98303 ≤ℤ (pos 9 *ℤ ninth +ℤ rest)) × ((pos 9 *ℤ ninth +ℤ rest) ≤ℤ pos 98301))

-- and this sum
abbrev pub IsColumnSum : (sum ninth rest : ℤ) → Type 0
IsColumnSum sum ninth rest = (pos 9 *ℤ ninth +ℤ rest ≡ sum) × AreColumnParts ninth rest

-- the mean of nine numbers, by the parts of the sums of three
abbrev pub mean_of_column_parts : (ninths rests : List ℤ) → ℕ → ℤ
mean_of_column_parts ninths rests k =
    floor_div (pos 9 *ℤ (at ninths k +ℤ at ninths (k + 1) +ℤ at ninths (k + 2)) +ℤ (at rests k +ℤ at rests (k + 1) +ℤ at rests (k + 2))) (pos 9)
