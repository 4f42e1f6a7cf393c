-- Division of numbers of 16 bits as a product and a shift.
use Rattle.std.specs.Prelude.{ℕ, ◌*◌, ◌/◌, ◌^◌, ◌<◌, ◌≡◌, ℤ, pos, negsuc}

-- for each n below 2 ^ 15 the upper half of the product with the factor, without its last bits, is the quotient
abbrev pub IsNarrowReciprocal : (divisor factor shift : ℕ) → Type 0
IsNarrowReciprocal divisor factor shift = (n : ℕ) → n < 2 ^ 15 → n * factor / 65536 / 2 ^ shift ≡ n / divisor

-- for each n below 2 ^ 15 the quotient by a power of two is that by the divisor
abbrev pub IsNarrowShift : (divisor bits : ℕ) → Type 0
IsNarrowShift divisor bits = (n : ℕ) → n < 2 ^ 15 → n / 2 ^ bits ≡ n / divisor

-- how far a number lies from 0, and one below 0 from -1
abbrev pub narrow_complement : ℤ → ℕ
narrow_complement (pos n) = n
narrow_complement (negsuc n) = n

-- the number that lies so far from 0 or from -1, on the side of z
abbrev pub narrow_uncomplement : ℤ → ℕ → ℤ
narrow_uncomplement (pos n) m = pos m
narrow_uncomplement (negsuc n) m = negsuc m
