-- Numbers times a factor plus an addend, divided by a power of two and rounded down, plus an offset.
use Rattle.std.specs.Prelude.{ℕ, ◌^◌, ℤ, pos, ◌+ℤ◌, ◌*ℤ◌, FitsSigned}
use Rattle.std.specs.Int.{w16}
use Rattle.domains.specs.Arithmetic.{floor_div}

-- what is made of a
abbrev pub affine_value : (factor addend : ℤ) (bits : ℕ) (offset a : ℤ) → ℤ
affine_value factor addend bits offset a = floor_div (factor *ℤ a +ℤ addend) (pos (2 ^ bits)) +ℤ offset

-- the product, the sum and what comes of it fit in 16 bits
pub record FitsAffine (factor addend : ℤ) (bits : ℕ) (offset a : ℤ) : Type 0 where
  pub product : FitsSigned w16 (factor *ℤ a)
  pub sum : FitsSigned w16 (factor *ℤ a +ℤ addend)
  pub value : FitsSigned w16 (affine_value factor addend bits offset a)
