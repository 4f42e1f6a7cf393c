-- The values of sums of products, and of what is made of them.
use Rattle.std.specs.Prelude.{ℕ, ℤ, pos, ◌≡◌, ◌^◌, ◌+ℤ◌, ◌*ℤ◌, Bool, true, false, List, [], ◌∷◌, All}
use Rattle.domains.specs.Arithmetic.{wrapped, clamped, floor_div}
use Rattle.domains.specs.Index.{index_at}
use Rattle.operators.specs.Values.{literal_value}
use Rattle.operators.specs.declared.operator.BinaryOp.{BinaryOp}
use Rattle.operators.specs.declared.operator.BinaryOp.TheVariants.{Add, Sub, Mul, Min, Max}
use Rattle.job.specs.Formula.{Formula, binary}
use Rattle.job.specs.Reads.{Read, point}
use Rattle.job.specs.Values.{Valuation, formula_value}
use Rattle.row_loops.specs.Rows.{at}
use Rattle.linear_rows.specs.declared.linear_make.LinearMake.{LinearMake}
use Rattle.linear_rows.specs.declared.linear_make.LinearShift.{LinearShift}
use Rattle.linear_rows.specs.declared.linear_lines.LinearLine.{LinearLine}
use Rattle.linear_rows.specs.declared.linear_taps.LinearTap.{LinearTap}
use Rattle.linear_rows.specs.declared.linear_taps.LinearSum.{LinearSum}

-- ---- what is made of a sum

abbrev pub made : LinearMake → ℤ → ℤ
made m s = clamped (literal_value m.op s m.literal) m.low m.high

-- a number shifted to the right, and clamped
unfoldable pub shifted : LinearShift → ℤ → ℤ
shifted m v = clamped (floor_div v (pos (2 ^ m.bits))) m.low m.high

-- at each point a formula has what is made of the sum in it
abbrev pub IsMadeOf : Formula → Formula → LinearMake → Type 0
IsMadeOf f sum m = (env : Valuation) (r c : ℤ) → made m (formula_value env sum r c) ≡ formula_value env f r c

-- ---- sums

-- what an operator of sums joins: its value is wrapped at 32 bits
abbrev pub is_linear_operator : BinaryOp → Bool
is_linear_operator Add = true
is_linear_operator Sub = true
is_linear_operator Mul = true
is_linear_operator Min = false
is_linear_operator Max = false

abbrev pub is_joined : Formula → Bool
is_joined (binary op a b) = is_linear_operator op
is_joined f = false

-- a factor times the number at a place of a line
abbrev pub line_at : LinearLine → ℕ → ℤ
line_at l k = l.factor *ℤ at l.line.now k

-- what a tap adds at the point of row r and column c, exactly
abbrev pub tap_value : Valuation → LinearTap → ℤ → ℤ → ℤ
tap_value env t r c = t.factor *ℤ env t.stage (index_at t.row.now r) (index_at t.col.now c)

abbrev pub taps_value : Valuation → List LinearTap → ℤ → ℤ → ℤ
taps_value env [] r c = pos 0
taps_value env (t ∷ ts) r c = tap_value env t r c +ℤ taps_value env ts r c

abbrev pub sum_value : Valuation → LinearSum → ℤ → ℤ → ℤ
sum_value env sum r c = sum.number +ℤ taps_value env sum.taps.items r c

-- P holds of the sample that a tap takes there
abbrev pub IsTapRead : (ℕ → ℤ → ℤ → Type 0) → ℤ → ℤ → LinearTap → Type 0
IsTapRead P r c t = P t.stage (index_at t.row.now r) (index_at t.col.now c)

-- what a tap reads
abbrev pub tap_read : LinearTap → Read
tap_read t = point t.stage t.row.now t.col.now

abbrev pub AreTapsRead : (ℕ → ℤ → ℤ → Type 0) → ℤ → ℤ → List LinearTap → Type 0
AreTapsRead P r c taps = All (IsTapRead P r c) taps

-- at each point a formula has what is made of the value of a sum
abbrev pub GivesValues : Formula → LinearSum → LinearMake → Type 0
GivesValues f sum m = (env : Valuation) (r c : ℤ) → made m (wrapped (sum_value env sum r c)) ≡ formula_value env f r c
