-- Operators with numbers as steps of affine maps, and formulas that are maps of others. All of it is said of each valuation and
-- each point at which the formula is narrow.
use Rattle.std.specs.Prelude.{◌≡◌, ◌^◌, ℤ, pos, ◌+ℤ◌, ◌*ℤ◌}
use Rattle.std.specs.List.{Contains}
use Rattle.domains.specs.Arithmetic.{floor_div}
use Rattle.job.specs.Formula.{Formula}
use Rattle.job.specs.Reads.{Read, reads_in}
use Rattle.job.specs.Values.{Valuation, formula_value}
use Rattle.value_ranges.specs.Narrow.{IsNarrow}
use Rattle.narrow_kernels.specs.declared.narrow_affine_map.NarrowAffineMap.{NarrowAffineMap}
use Rattle.narrow_kernels.specs.NarrowAffine.{affine_value, FitsAffine}
use Rattle.narrow_pieces.specs.declared.piece.NarrowPiece.{NarrowPiece}
use Rattle.narrow_pieces.specs.declared.steps.NarrowPieceStep.{NarrowPieceStep}
use Rattle.narrow_pieces.specs.declared.steps.NarrowPieceStep.TheVariants.{Add, Multiply, Shift}
use Rattle.narrow_pieces.specs.Pieces.{piece_read, piece_value, FitsPiece, IsShiftingPiece}

-- what a step makes of a number
abbrev pub step_value : NarrowPieceStep → ℤ → ℤ
step_value (Add n) x = x +ℤ n
step_value (Multiply n) x = n *ℤ x
step_value (Shift bits) x = floor_div x (pos (2 ^ bits))

-- a step makes the values of f of those of g
pub record IsStepOf (step : NarrowPieceStep) (g f : Formula) : Type 0 where
  pub reads : (x : Read) → Contains (reads_in g) x → Contains (reads_in f) x
  pub narrow : (env : Valuation) (r c : ℤ) → IsNarrow env f r c → IsNarrow env g r c
  pub value : (env : Valuation) (r c : ℤ) → IsNarrow env f r c → step_value step (formula_value env g r c) ≡ formula_value env f r c

-- a map makes the values of f of those of g, and each of its steps fits in 16 bits
pub record IsMapped (m : NarrowAffineMap) (g f : Formula) : Type 0 where
  pub reads : (x : Read) → Contains (reads_in g) x → Contains (reads_in f) x
  pub narrow : (env : Valuation) (r c : ℤ) → IsNarrow env f r c → IsNarrow env g r c
  pub fits : (env : Valuation) (r c : ℤ) → IsNarrow env f r c → FitsAffine m.factor m.addend m.bits m.offset (formula_value env g r c)
  pub value : (env : Valuation) (r c : ℤ) → IsNarrow env f r c
      → affine_value m.factor m.addend m.bits m.offset (formula_value env g r c) ≡ formula_value env f r c

-- a formula is a piece
pub record IsPieceOf (p : NarrowPiece) (f : Formula) : Type 0 where
  pub adds : IsShiftingPiece p
  pub reads : Contains (reads_in f) (piece_read p)
  pub fits : (env : Valuation) (r c : ℤ) → IsNarrow env f r c → FitsPiece env p r c
  pub value : (env : Valuation) (r c : ℤ) → IsNarrow env f r c → piece_value env p r c ≡ formula_value env f r c
