-- Whole numbers at 32 and 64 bits: sums and products that wrap, and division that rounds down.
use Rattle.std.specs.Prelude.{ℤ, pos, ◌≡◌, ◌+ℤ◌, ◌*ℤ◌, ◌≤ℤ◌, ◌<ℤ◌, FitsSigned}
use Rattle.std.specs.Int.{Width, w32, w64, int_wrap, int_div_euclid, int_rem_euclid, int_min, int_max}

-- a whole number wrapped at 32 bits, and at 64 bits
abbrev pub wrapped : ℤ → ℤ
wrapped n = int_wrap w32 n

abbrev pub wrapped_long : ℤ → ℤ
wrapped_long n = int_wrap w64 n

-- a / d rounded down, and what it leaves, for d above 0
abbrev pub floor_div : ℤ → ℤ → ℤ
floor_div a d = int_div_euclid a d

abbrev pub floor_rem : ℤ → ℤ → ℤ
floor_rem a d = int_rem_euclid a d

-- v clamped to at least lo, and then to at most hi
abbrev pub clamped : ℤ → ℤ → ℤ → ℤ
clamped v lo hi = int_min (int_max v lo) hi

-- a and b differ by a multiple of m
abbrev pub IsCongruent : ℤ → ℤ → ℤ → Type 0
IsCongruent m a b = (q : ℤ) × (a ≡ b +ℤ q *ℤ m)

-- r is n wrapped: of the numbers of the signed type, the one that is congruent to n
pub record IsWrapped (w : Width) (modulus n r : ℤ) : Type 0 where
  pub fits : FitsSigned w r
  pub congruent : IsCongruent modulus n r

-- q is the greatest whole number whose product with d is at most a, and r is what is left
pub record IsFloor (a d q r : ℤ) : Type 0 where
  pub split : a ≡ q *ℤ d +ℤ r
  pub least : pos 0 ≤ℤ r
  pub below : r <ℤ d
