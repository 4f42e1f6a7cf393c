-- Pieces are those of a function in one way: any two proofs of it are equal.
use Rattle.std.specs.Prelude.{Option, Some, None, List, [], ◌∷◌}
use Rattle.std.proofs.Props.{props}
use Rattle.job.specs.Formula.{Formula}
use Rattle.job.specs.Pipeline.{JobCase}
use Rattle.narrow_pieces.specs.declared.piece.NarrowPieces.{NarrowPieces}
use Rattle.narrow_pieces.specs.declared.piece.NarrowPieces.TheVariants.{Two, Three}
use Rattle.narrow_pieces.specs.Pieces.{ArePiecesOf, AreFunctionPieces}

ArePiecesOf-prop : (pieces : NarrowPieces) (f : Formula) → IsProp (ArePiecesOf pieces f)
ArePiecesOf-prop (Two a join b) f = hlevel props
ArePiecesOf-prop (Three a join b outer d) f = hlevel props

pub AreFunctionPieces-prop : (pieces : NarrowPieces) (ps : List JobCase) (o : Option Formula) → IsProp (AreFunctionPieces pieces ps o)
AreFunctionPieces-prop pieces [] (Some f) = ArePiecesOf-prop pieces f
AreFunctionPieces-prop pieces [] None = hlevel props
AreFunctionPieces-prop pieces (p ∷ ps) o = hlevel props
