-- Functions that take the lesser or the greater ones of two or three pieces. A piece is an affine map of a read.
use Rattle.std.specs.Prelude.{◌≡◌, ℤ, pos, Bool, true, false, ◌&&◌, nat_eq, Option, Some, List, []}
use Rattle.std.specs.List.{list_any}
use Rattle.std.specs.Ordering.{int_eq}
use Rattle.domains.specs.Index.{Scale, index_at}
use Rattle.job.specs.Formula.{Formula}
use Rattle.job.specs.Pipeline.{JobCase}
use Rattle.job.specs.Reads.{Read, point, window, reads_in}
use Rattle.job.specs.Values.{Valuation, formula_value}
use Rattle.value_ranges.specs.Narrow.{IsNarrow}
use Rattle.narrow_kernels.specs.NarrowAffine.{affine_value, FitsAffine}
use Rattle.narrow_kernels.specs.NarrowAffineExtremes.{extreme_value}
use Rattle.narrow_pieces.specs.declared.piece.NarrowPiece.{NarrowPiece}
use Rattle.narrow_pieces.specs.declared.piece.NarrowPieces.{NarrowPieces}
use Rattle.narrow_pieces.specs.declared.piece.NarrowPieces.TheVariants.{Two, Three}

-- ---- a piece

abbrev pub piece_read : NarrowPiece → Read
piece_read p = point p.stage p.row.now p.col.now

-- an index has the three numbers of another one
abbrev pub is_same_index : Scale → Scale → Bool
is_same_index i j = int_eq i.mul j.mul && (int_eq i.add j.add && int_eq i.div j.div)

-- a read is that of the piece
abbrev pub is_piece_read : NarrowPiece → Read → Bool
is_piece_read p (point g i j) = nat_eq g p.stage && (is_same_index i p.row.now && is_same_index j p.col.now)
is_piece_read p (window g kernel) = false

-- a formula has that read
abbrev pub has_piece_read : Formula → NarrowPiece → Bool
has_piece_read f p = list_any (is_piece_read p) (reads_in f)

-- the sample that it takes at the point of row r and column c, where env gives the values of the stages
abbrev pub piece_sample : Valuation → NarrowPiece → ℤ → ℤ → ℤ
piece_sample env p r c = env p.stage (index_at p.row.now r) (index_at p.col.now c)

-- what its map makes of that
abbrev pub piece_value : Valuation → NarrowPiece → ℤ → ℤ → ℤ
piece_value env p r c = affine_value p.map.factor p.map.addend p.map.bits p.map.offset (piece_sample env p r c)

-- each step of the map fits in 16 bits
abbrev pub FitsPiece : Valuation → NarrowPiece → ℤ → ℤ → Type 0
FitsPiece env p r c = FitsAffine p.map.factor p.map.addend p.map.bits p.map.offset (piece_sample env p r c)

-- the index of its column only adds, so that adjacent points take adjacent samples
abbrev pub IsShiftingPiece : NarrowPiece → Type 0
IsShiftingPiece p = (p.col.now.mul ≡ pos 1) × (p.col.now.div ≡ pos 1)

-- ---- two or three of them

-- P holds of each
abbrev pub EachPiece : (NarrowPiece → Type 0) → NarrowPieces → Type 0
EachPiece P (Two a join b) = P a × P b
EachPiece P (Three a join b outer d) = P a × P b × P d

-- what is taken of their values at a point
abbrev pub pieces_value : Valuation → NarrowPieces → ℤ → ℤ → ℤ
pieces_value env (Two a join b) r c = extreme_value join (piece_value env a r c) (piece_value env b r c)
pieces_value env (Three a join b outer d) r c =
    extreme_value outer (extreme_value join (piece_value env a r c) (piece_value env b r c)) (piece_value env d r c)

-- what they read is among what a formula reads. Wherever each number in the formula fits in 16 bits, so does each step of their maps, and what
-- is taken of their values is the formula's value
pub record ArePiecesOf (pieces : NarrowPieces) (f : Formula) : Type 0 where
  pub adds : EachPiece IsShiftingPiece pieces
  pub reads : EachPiece (λ p. has_piece_read f p ≡ true) pieces
  pub fits : (env : Valuation) (r c : ℤ) → IsNarrow env f r c → EachPiece (λ p. FitsPiece env p r c) pieces
  pub value : (env : Valuation) (r c : ℤ) → IsNarrow env f r c → pieces_value env pieces r c ≡ formula_value env f r c

-- they are the pieces of the formula of a function without cases
abbrev pub AreFunctionPieces : NarrowPieces → List JobCase → Option Formula → Type 0
AreFunctionPieces pieces [] (Some f) = ArePiecesOf pieces f
AreFunctionPieces pieces ps o = ⊥
