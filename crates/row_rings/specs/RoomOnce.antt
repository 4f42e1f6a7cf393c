-- There is room in one way: any two proofs of it are equal.
use Rattle.std.specs.Prelude.{ℕ, Bool, List}
use Rattle.std.proofs.Props.{props}
use Rattle.job.specs.Formula.{Formula, number, coordinate, read, unary, binary, ternary, literal, lookup, select, stencil}
use Rattle.job.specs.Pipeline.{Body, plane, function, accumulator, Pipeline}
use Rattle.row_rings.specs.TrueRings.{HasBodyRoom, AreRoomy}
use Rattle.tile_eval.specs.Reading.{HasRoom}

HasRoom-prop : (f : Formula) (n room : ℕ) → IsProp (HasRoom f n room)
HasRoom-prop (number m) n room = hlevel props
HasRoom-prop (coordinate x) n room = hlevel props
HasRoom-prop (read g i j) n room = hlevel props
HasRoom-prop (unary op a) n room = HasRoom-prop a n room
HasRoom-prop (binary op a b) n room = hlevel (HasRoom-prop a, HasRoom-prop b, props)
HasRoom-prop (ternary op a b c) n room = hlevel (HasRoom-prop a, HasRoom-prop b, HasRoom-prop c, props)
HasRoom-prop (literal op a m) n room = HasRoom-prop a n room
HasRoom-prop (lookup t a) n room = HasRoom-prop a n room
HasRoom-prop (select a relation b first second) n room =
    hlevel (HasRoom-prop a, HasRoom-prop b, HasRoom-prop first, HasRoom-prop second, props)
HasRoom-prop (stencil g divisor kernel) n room = hlevel props

HasBodyRoom-prop : (n room : ℕ) (body : Body) → IsProp (HasBodyRoom n room body)
HasBodyRoom-prop n room (plane m) = hlevel props
HasBodyRoom-prop n room (function cases otherwise) = hlevel (HasRoom-prop, props)
HasBodyRoom-prop n room (accumulator fold bins value bin) = hlevel props

pub AreRoomy-prop : (job : Pipeline) (computed : List Bool) (narrow : Bool) (room : ℕ) → IsProp (AreRoomy job computed narrow room)
AreRoomy-prop job computed narrow room = hlevel (HasBodyRoom-prop, props)
