-- The value of a stage at a point.
use Rattle.std.specs.Prelude.{ℕ, zero, suc, ◌+◌, ◌*◌, ℤ, pos, ◌*ℤ◌, unsigned_abs}
use Rattle.std.specs.Prelude.{if◌then◌else◌, Option, Some, None}
use Rattle.std.specs.Prelude.{List, [], ◌∷◌, length, slice_get, slice_index, slice_index_or}
use Rattle.std.specs.Option.{option_map_or}
use Rattle.domains.specs.Arithmetic.{wrapped, floor_div}
use Rattle.domains.specs.Index.{index_at}
use Rattle.netpbm.specs.Image.{Image}
use Rattle.tables.specs.Entries.{entry_at}
use Rattle.job.specs.Formula.{Formula, number, coordinate, read, unary, binary, ternary, literal, lookup, select, stencil}
pub use Rattle.operators.specs.Values.{unary_value, binary_value, ternary_value, literal_value, is_related, along, sum_below, factors, under, is_passed, all_passed}
use Rattle.job.specs.Pipeline.{JobCase, Body, plane, function, accumulator, Stage, Pipeline, rank_of}

-- a number for each stage, row and column
abbrev pub Valuation : Type 0
Valuation = ℕ → ℤ → ℤ → ℤ

-- ---- stencils

abbrev pub kernel_row : List (List ℤ) → ℤ → ℕ → ℤ
kernel_row kernel r a = under r (length kernel) a

abbrev pub kernel_column : List (List ℤ) → ℤ → ℕ → ℤ
kernel_column kernel c b = under c (length (factors kernel 0)) b

-- the factors times the values under them, added up exactly
abbrev pub weighted_sum : List (List ℤ) → (ℤ → ℤ → ℤ) → ℤ → ℤ → ℤ
weighted_sum kernel f r c =
    sum_below (length kernel) (λ a. sum_below (length (factors kernel a)) (λ b.
    slice_index_or (factors kernel a) b (pos 0) *ℤ f (kernel_row kernel r a) (kernel_column kernel c b)))

-- ---- formulas

-- the value of a formula at the point of row r and column c, where env gives the values of the stages
abbrev pub formula_value : Valuation → Formula → ℤ → ℤ → ℤ
formula_value env (number n) r c = n
formula_value env (coordinate x) r c = along x r c
formula_value env (read g i j) r c = env g (index_at i r) (index_at j c)
formula_value env (unary op a) r c = unary_value op (formula_value env a r c)
formula_value env (binary op a b) r c = binary_value op (formula_value env a r c) (formula_value env b r c)
formula_value env (ternary op a b d) r c = ternary_value op (formula_value env a r c) (formula_value env b r c) (formula_value env d r c)
formula_value env (literal op a n) r c = literal_value op (formula_value env a r c) n
formula_value env (lookup t a) r c = entry_at t (formula_value env a r c)
formula_value env (select a relation b first second) r c =
    if is_related relation (formula_value env a r c) (formula_value env b r c)
    then formula_value env first r c
    else formula_value env second r c
formula_value env (stencil g divisor kernel) r c = floor_div (wrapped (weighted_sum kernel (env g) r c)) (pos divisor)

-- ---- stages

-- the formula of the first case whose tests hold at the point, else the other formula, if there is one
abbrev pub chosen : List JobCase → Option Formula → ℤ → ℤ → Option Formula
chosen [] otherwise r c = otherwise
chosen (p ∷ ps) otherwise r c = if all_passed p.tests r c then Some p.formula else chosen ps otherwise r c

-- a sample of a plane, whose samples are listed row by row
abbrev pub sample_at : Image → ℕ → ℤ → ℤ → ℤ
sample_at picture n r c = pos (slice_index (slice_index_or picture.planes n []) (unsigned_abs r * picture.cols + unsigned_abs c))

-- what a stage is at a point of its domain, where env gives the values of the stages that it reads
abbrev pub body_value : Image → Valuation → Body → ℤ → ℤ → ℤ
body_value picture env (plane n) r c = sample_at picture n r c
body_value picture env (function cases otherwise) r c = option_map_or (λ f. formula_value env f r c) (chosen cases otherwise r c) (pos 0)
body_value picture env (accumulator fold bins value bin) r c = pos 0

abbrev pub stage_value : Pipeline → Valuation → Option Stage → ℤ → ℤ → ℤ
stage_value job env None r c = pos 0
stage_value job env (Some s) r c = body_value job.picture env s.body r c

-- the values of the stages whose ranks are below this number; of the others it specifies nothing
abbrev pub value_within : Pipeline → ℕ → Valuation
value_within job zero g r c = pos 0
value_within job (suc n) g r c = stage_value job (value_within job n) (slice_get job.stages g) r c

-- the value of stage g at a point of its domain: reads lead to lower ranks, so as many steps as its rank are enough
abbrev pub value : Pipeline → Valuation
value job g r c = value_within job (suc (rank_of job.stages g)) g r c
