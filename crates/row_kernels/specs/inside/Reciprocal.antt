-- Division as a product and a shift.
use Rattle.std.specs.Prelude.{ℕ, ◌*◌, ◌/◌, ◌^◌, ◌<◌, ◌≡◌, ℤ, pos, negsuc}

-- for each n below 2 ^ 31 the product with the factor, without its last bits, is the quotient
abbrev pub IsReciprocal : (divisor factor shift : ℕ) → Type 0
IsReciprocal divisor factor shift = (n : ℕ) → n < 2 ^ 31 → n * factor / 2 ^ shift ≡ n / divisor

-- how far a number lies from 0, and one below 0 from -1
abbrev pub complement_negative_dividend : ℤ → ℕ
complement_negative_dividend (pos n) = n
complement_negative_dividend (negsuc n) = n

-- the number that lies so far from 0 or from -1, on the side of z
abbrev pub undo_complement_of_dividend : ℤ → ℕ → ℤ
undo_complement_of_dividend (pos n) m = pos m
undo_complement_of_dividend (negsuc n) m = negsuc m
