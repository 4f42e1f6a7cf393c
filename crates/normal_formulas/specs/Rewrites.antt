-- When a formula may stand for another one.
use Rattle.std.specs.Prelude.{ℕ, ℤ, ◌<◌, ◌≡◌, FitsSigned, All, Contains, List, length}
use Rattle.std.specs.Int.{w32}
use Rattle.domains.specs.Index.{Scale, index_at}
use Rattle.job.specs.Formula.{Formula}
use Rattle.job.specs.Values.{Valuation, formula_value, factors, kernel_row, kernel_column}
use Rattle.job.specs.Reads.{Read, point, window, reads_in, stage_read, EachRead}
use Rattle.job.specs.WellFormed.{IsFormula}

-- the value of a stage at a point fits in 32 bits
abbrev pub Fits32 : Valuation → ℕ → ℤ → ℤ → Type 0
Fits32 env g r c = FitsSigned w32 (env g r c)

-- a read at the indices i and j takes stage g at row a and column b
pub record TakesPoint (s : ℕ) (i j : Scale) (r c : ℤ) (g : ℕ) (a b : ℤ) : Type 0 where
  pub stage : s ≡ g
  pub row : index_at i r ≡ a
  pub column : index_at j c ≡ b

-- a kernel takes it by one of its factors
pub record TakesFactor (s : ℕ) (kernel : List (List ℤ)) (r c : ℤ) (g : ℕ) (a b : ℤ) : Type 0 where
  pub across : ℕ
  pub along : ℕ
  pub row_there : across < length kernel
  pub there : along < length (factors kernel across)
  pub stage : s ≡ g
  pub row : kernel_row kernel r across ≡ a
  pub column : kernel_column kernel c along ≡ b

abbrev pub IsTaken : Read → ℤ → ℤ → ℕ → ℤ → ℤ → Type 0
IsTaken (point s i j) r c g a b = TakesPoint s i j r c g a b
IsTaken (window s kernel) r c g a b = TakesFactor s kernel r c g a b

-- f reads stage g at row a and column b where its own point is that of row r and column c
pub record IsReadAt (f : Formula) (r c : ℤ) (g : ℕ) (a b : ℤ) : Type 0 where
  pub access : Read
  pub there : Contains (reads_in f) access
  pub taken : IsTaken access r c g a b

-- f reads stage g
pub record IsStageOf (f : Formula) (g : ℕ) : Type 0 where
  pub access : Read
  pub there : Contains (reads_in f) access
  pub stage : stage_read access ≡ g

-- g may stand for f: wherever what f reads fits in 32 bits they have one value, and g reads nothing else, of the same stages
pub record Rewrites (f g : Formula) : Type 0 where
  pub formula : IsFormula f → IsFormula g
  pub value :
      (env : Valuation) (r c : ℤ) → IsFormula f → FitsSigned w32 r → FitsSigned w32 c → EachRead (Fits32 env) f r c
      → formula_value env g r c ≡ formula_value env f r c
  pub reads : (r c : ℤ) → EachRead (IsReadAt f r c) g r c
  pub stages : IsFormula f → All (λ x. IsStageOf f (stage_read x)) (reads_in g)
  pub back : IsFormula f → All (λ x. IsStageOf g (stage_read x)) (reads_in f)
