-- Values of operators fit 32 bits where their operands do.
use Rattle.std.proofs.Common.{ℕ, arith, ◌≤◌, ◌<◌, ◌^◌, ℤ, pos, negsuc, ◌≤ℤ◌, ◌<ℤ◌, FitsSigned, w32}
use Rattle.std.specs.Int.{int_min, int_max}
use Rattle.std.proofs.lemmas.Int.{ints, clamps, SFits-int_wrap}
use Rattle.std.proofs.lemmas.Nat.{pow_pos}
use Rattle.domains.specs.Arithmetic.{floor_div, floor_rem}
use Rattle.domains.proofs.Floors.{floor_splits, floor_div_rises, floor_div_within}
use Rattle.operators.specs.declared.operator.UnaryOp.{UnaryOp}
use Rattle.operators.specs.declared.operator.UnaryOp.TheVariants.{Neg, Abs}
use Rattle.operators.specs.declared.operator.BinaryOp.{BinaryOp}
use Rattle.operators.specs.declared.operator.BinaryOp.TheVariants.{Add, Sub, Mul, Min, Max}
use Rattle.operators.specs.declared.operator.TernaryOp.{TernaryOp}
use Rattle.operators.specs.declared.operator.TernaryOp.TheVariants.{Clamp}
use Rattle.operators.specs.declared.operator.LiteralOp.{LiteralOp}
use Rattle.operators.specs.declared.operator.LiteralOp.TheVariants.{Div, Rem, Shl, Shr}
use Rattle.operators.specs.Limits.{IsDivisor, IsLiteral}
use Rattle.operators.specs.Values.{unary_value, binary_value, ternary_value, literal_value}

-- ---- bounds

pub from_bounds : (z : ℤ) → negsuc 2147483647 ≤ℤ z → z ≤ℤ pos 2147483647 → FitsSigned w32 z
from_bounds (pos n) low high = omega (arith, ints)
from_bounds (negsuc n) low high = omega (arith, ints)

pub to_bounds : (z : ℤ) → FitsSigned w32 z → (negsuc 2147483647 ≤ℤ z) × (z ≤ℤ pos 2147483647)
to_bounds (pos n) fits = (omega (arith, ints), omega (arith, ints))
to_bounds (negsuc n) fits = (omega (arith, ints), omega (arith, ints))

min_fits : (a b : ℤ) → FitsSigned w32 a → FitsSigned w32 b → FitsSigned w32 (int_min a b)
min_fits a b f g =
    let x = to_bounds a f in let y = to_bounds b g in
    let a_low = x.0 in let a_high = x.1 in let b_low = y.0 in let b_high = y.1 in
    from_bounds (int_min a b) (omega (arith, ints, clamps)) (omega (arith, ints, clamps))

max_fits : (a b : ℤ) → FitsSigned w32 a → FitsSigned w32 b → FitsSigned w32 (int_max a b)
max_fits a b f g =
    let x = to_bounds a f in let y = to_bounds b g in
    let a_low = x.0 in let a_high = x.1 in let b_low = y.0 in let b_high = y.1 in
    from_bounds (int_max a b) (omega (arith, ints, clamps)) (omega (arith, ints, clamps))

above_zero : (n : ℕ) → 1 ≤ n → pos 0 <ℤ pos n
above_zero n h = omega (arith, ints)

pub quotient_fits : (a : ℤ) (n : ℕ) → 1 ≤ n → FitsSigned w32 a → FitsSigned w32 (floor_div a (pos n))
quotient_fits a n some fits =
    let d = above_zero n some in
    let x = to_bounds a fits in
    let low = x.0 in let high = x.1 in
    let least = (floor_div_within a (pos n) 2147483647 d low (omega (arith, ints))).0 in
    let rises = floor_div_rises a (pos 2147483647) (pos n) d high in
    let most = (floor_div_within (pos 2147483647) (pos n) 2147483646 d (omega (arith, ints)) (omega (arith, ints))).1 in
    from_bounds (floor_div a (pos n)) least (omega (arith, ints))

rest_fits : (a : ℤ) (n : ℕ) → IsDivisor n → FitsSigned w32 (floor_rem a (pos n))
rest_fits a n is =
    let split = floor_splits a (pos n) (above_zero n is.0) in
    let least = split.least in let below = split.below in let few = is.1 in
    from_bounds (floor_rem a (pos n)) (omega (arith, ints)) (omega (arith, ints))

-- ---- operators

pub unary_fits : (op : UnaryOp) (a : ℤ) → FitsSigned w32 a → FitsSigned w32 (unary_value op a)
unary_fits Neg a f = SFits-int_wrap w32 _
unary_fits Abs a f = SFits-int_wrap w32 _

pub binary_fits : (op : BinaryOp) (a b : ℤ) → FitsSigned w32 a → FitsSigned w32 b → FitsSigned w32 (binary_value op a b)
binary_fits Add a b f g = SFits-int_wrap w32 _
binary_fits Sub a b f g = SFits-int_wrap w32 _
binary_fits Mul a b f g = SFits-int_wrap w32 _
binary_fits Min a b f g = min_fits a b f g
binary_fits Max a b f g = max_fits a b f g

pub ternary_fits : (op : TernaryOp) (a b c : ℤ) → FitsSigned w32 a → FitsSigned w32 b → FitsSigned w32 c
    → FitsSigned w32 (ternary_value op a b c)
ternary_fits Clamp a b c f g h = min_fits (int_max a b) c (max_fits a b f g) h

pub literal_fits : (op : LiteralOp) (a : ℤ) (n : ℕ) → IsLiteral op n → FitsSigned w32 a → FitsSigned w32 (literal_value op a n)
literal_fits Div a n is f = quotient_fits a n is.0 f
literal_fits Rem a n is f = rest_fits a n is
literal_fits Shl a n is f = SFits-int_wrap w32 _
literal_fits Shr a n is f = quotient_fits a (2 ^ n) (at_least_one (2 ^ n) (pow_pos n)) f
  where
    at_least_one : (m : ℕ) → 0 < m → 1 ≤ m
    at_least_one m h = omega arith
