-- The values of operators, tests and kernels.
use Rattle.std.specs.Prelude.{ℕ, zero, suc, ◌/◌, ◌^◌, ℤ, pos, neg_ℤ, unsigned_abs, ◌+ℤ◌, ◌-ℤ◌, ◌*ℤ◌, int_le}
use Rattle.std.specs.Prelude.{Bool, true, ◌&&◌}
use Rattle.std.specs.Prelude.{List, [], ◌∷◌, slice_index_or}
use Rattle.std.specs.Int.{int_min, int_max}
use Rattle.std.specs.Ordering.{int_eq}
use Rattle.domains.specs.Arithmetic.{wrapped, floor_div, floor_rem, clamped}
use Rattle.operators.specs.declared.operator.UnaryOp.{UnaryOp}
use Rattle.operators.specs.declared.operator.UnaryOp.TheVariants.{Neg, Abs}
use Rattle.operators.specs.declared.operator.BinaryOp.{BinaryOp}
use Rattle.operators.specs.declared.operator.BinaryOp.TheVariants.{Add, Sub, Mul, Min, Max}
use Rattle.operators.specs.declared.operator.TernaryOp.{TernaryOp}
use Rattle.operators.specs.declared.operator.TernaryOp.TheVariants.{Clamp}
use Rattle.operators.specs.declared.operator.LiteralOp.{LiteralOp}
use Rattle.operators.specs.declared.operator.LiteralOp.TheVariants.{Div, Rem, Shl, Shr}
use Rattle.operators.specs.declared.operator.Relation.{Relation}
use Rattle.operators.specs.declared.operator.Relation.TheVariants.{AtMost, AtLeast, Equals}
use Rattle.operators.specs.Tests.{Axis, row, column, Test, compare, remainder}

-- ---- numbers of 32 bits

abbrev pub unary_value : UnaryOp → ℤ → ℤ
unary_value Neg a = wrapped (neg_ℤ a)
unary_value Abs a = wrapped (pos (unsigned_abs a))

abbrev pub binary_value : BinaryOp → ℤ → ℤ → ℤ
binary_value Add a b = wrapped (a +ℤ b)
binary_value Sub a b = wrapped (a -ℤ b)
binary_value Mul a b = wrapped (a *ℤ b)
binary_value Min a b = int_min a b
binary_value Max a b = int_max a b

abbrev pub ternary_value : TernaryOp → ℤ → ℤ → ℤ → ℤ
ternary_value Clamp a low high = clamped a low high

-- a shift to the left is a product with a power of two, and one to the right a quotient by one
abbrev pub literal_value : LiteralOp → ℤ → ℕ → ℤ
literal_value Div a n = floor_div a (pos n)
literal_value Rem a n = floor_rem a (pos n)
literal_value Shl a n = wrapped (a *ℤ pos (2 ^ n))
literal_value Shr a n = floor_div a (pos (2 ^ n))

abbrev pub is_related : Relation → ℤ → ℤ → Bool
is_related AtMost a b = int_le a b
is_related AtLeast a b = int_le b a
is_related Equals a b = int_eq a b

abbrev pub along : Axis → ℤ → ℤ → ℤ
along row r c = r
along column r c = c

-- ---- stencils

-- f 0 + f 1 + .. + f (n - 1), exactly
abbrev pub sum_below : ℕ → (ℕ → ℤ) → ℤ
sum_below zero f = pos 0
sum_below (suc n) f = sum_below n f +ℤ f n

-- row a of a kernel
abbrev pub factors : List (List ℤ) → ℕ → List ℤ
factors kernel a = slice_index_or kernel a []

-- the place that a kernel at v reads with its factor number a of n: its middle factor is at v itself
abbrev pub under : ℤ → ℕ → ℕ → ℤ
under v n a = v +ℤ pos a -ℤ pos (n / 2)

-- ---- tests

abbrev pub is_passed : Test → ℤ → ℤ → Bool
is_passed (compare x relation bound) r c = is_related relation (along x r c) bound
is_passed (remainder x modulus rest) r c = int_eq (floor_rem (along x r c) (pos modulus)) (pos rest)

abbrev pub all_passed : List Test → ℤ → ℤ → Bool
all_passed [] r c = true
all_passed (t ∷ ts) r c = is_passed t r c && all_passed ts r c
