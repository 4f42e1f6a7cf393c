-- Sums with a number that may be nothing.
use Rattle.std.specs.Prelude.{ℤ, pos, negsuc, zero, suc, ◌+ℤ◌}
use Rattle.domains.specs.Arithmetic.{wrapped}

-- v and another number, wrapped at 32 bits, and v as it is where that number is 0
abbrev pub added : ℤ → ℤ → ℤ
added v (pos zero) = v
added v (pos (suc n)) = wrapped (v +ℤ pos (suc n))
added v (negsuc n) = wrapped (v +ℤ negsuc n)
