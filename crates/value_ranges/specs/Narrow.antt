-- Formulas whose values are computed in 16 bits.
use Rattle.std.specs.Prelude.{ℕ, ◌*◌, ◌/◌, nat_lt, ◌&&◌, if◌then◌else◌, ℤ, pos, ◌-ℤ◌, List, FitsSigned, All}
use Rattle.std.specs.Int.{w16}
use Rattle.std.specs.Option.{ForSome}
use Rattle.std.specs.Prelude.{Option}
use Rattle.domains.specs.Area.{HoldsPoint}
use Rattle.domains.specs.Index.{index_at}
use Rattle.job.specs.Formula.{Formula, number, coordinate, read, unary, binary, ternary, literal, lookup, select, stencil}
use Rattle.job.specs.Pipeline.{JobCase}
use Rattle.domains.specs.Arithmetic.{wrapped}
use Rattle.job.specs.Values.{Valuation, weighted_sum, formula_value}

abbrev pub Fits16 : ℤ → Type 0
Fits16 v = FitsSigned w16 v

-- how many divisors are taken from a sum before it is divided. By a divisor from 129 to 257, as of weights that add up to 2 ^ 8, whole
-- divisors are taken from 2 ^ 15: sums of samples of 8 bits fit in 16 bits then
abbrev pub steps_before_division : ℕ → ℕ
steps_before_division divisor = if nat_lt 128 divisor && nat_lt divisor 258 then 32768 / divisor else 0

-- a sum without them
abbrev pub sum_before_division : ℕ → ℤ → ℤ
sum_before_division divisor sum = sum -ℤ pos (steps_before_division divisor * divisor)

-- the sum under a kernel fits in 16 bits without them
abbrev pub IsNarrowStencil : (ℤ → ℤ → ℤ) → ℕ → List (List ℤ) → ℤ → ℤ → Type 0
IsNarrowStencil f divisor kernel r c = Fits16 (sum_before_division divisor (wrapped (weighted_sum kernel f r c)))

-- at the point of row r and column c the value of a formula fits in 16 bits, and so does that of each formula in it. Coordinates
-- and tables are not computed in 16 bits
abbrev pub IsNarrow : Valuation → Formula → ℤ → ℤ → Type 0
IsNarrow env (number n) r c = Fits16 n
IsNarrow env (coordinate x) r c = ⊥
IsNarrow env (read g i j) r c = Fits16 (env g (index_at i r) (index_at j c))
IsNarrow env (unary op a) r c = IsNarrow env a r c × Fits16 (formula_value env (unary op a) r c)
IsNarrow env (binary op a b) r c = IsNarrow env a r c × IsNarrow env b r c × Fits16 (formula_value env (binary op a b) r c)
IsNarrow env (ternary op a b d) r c =
    IsNarrow env a r c × IsNarrow env b r c × IsNarrow env d r c × Fits16 (formula_value env (ternary op a b d) r c)
IsNarrow env (literal op a n) r c = IsNarrow env a r c × Fits16 (formula_value env (literal op a n) r c)
IsNarrow env (lookup t a) r c = ⊥
IsNarrow env (select a relation b first second) r c =
    IsNarrow env a r c × IsNarrow env b r c × IsNarrow env first r c × IsNarrow env second r c
IsNarrow env (stencil g divisor kernel) r c = IsNarrowStencil (env g) divisor kernel r c

-- at a point each formula of a function is narrow where it is evaluated: that of a case at each point of its box
pub record IsNarrowFunction (env : Valuation) (cases : List JobCase) (otherwise : Option Formula) (r c : ℤ) : Type 0 where
  pub boxes : All (λ p. ForSome p.box (λ box. HoldsPoint box r c → IsNarrow env p.formula r c)) cases
  pub other : ForSome otherwise (λ f. IsNarrow env f r c)
