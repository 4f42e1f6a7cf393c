-- Pieces that can be written along a row of points.
use Rattle.std.specs.Prelude.{ℕ, ℤ, pos, ◌+ℤ◌}
use Rattle.job.specs.Reads.{EachTaken}
use Rattle.job.specs.Values.{Valuation}
use Rattle.row_loops.specs.Rows.{EachPlace}
use Rattle.narrow_pieces.specs.declared.piece.NarrowPiece.{NarrowPiece}
use Rattle.narrow_pieces.specs.Pieces.{piece_read, FitsPiece, IsShiftingPiece}

-- at n points of row r from column c on the samples of a piece are available, and each step of its map fits in 16 bits
pub record IsReadyPiece (has : ℕ → ℤ → ℤ → Type 0) (env : Valuation) (r c : ℤ) (n : ℕ) (p : NarrowPiece) : Type 0 where
  pub adds : IsShiftingPiece p
  pub reads : EachPlace n (λ k. EachTaken has (piece_read p) r (c +ℤ pos k))
  pub fits : EachPlace n (λ k. FitsPiece env p r (c +ℤ pos k))
