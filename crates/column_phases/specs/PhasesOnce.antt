-- Functions are the phases of another in one way: any two proofs of it are equal.
use Rattle.std.specs.Prelude.{ℕ, Option, List}
use Rattle.std.proofs.Props.{props}
use Rattle.job.specs.Formula.{row, column, Test, compare, remainder}
use Rattle.job.specs.Formula.{Formula, number, coordinate, read, unary, binary, ternary, literal, lookup, select, stencil}
use Rattle.job.specs.Pipeline.{JobCase}
use Rattle.job.specs.declared.stage.Function.{Function}
use Rattle.column_phases.specs.Phases.{IsDecided, Steps, ArePhasesOf}

IsDecided-prop : (P : ℕ) (t : Test) → IsProp (IsDecided P t)
IsDecided-prop P (compare row relation bound) = hlevel props
IsDecided-prop P (compare column relation bound) = hlevel props
IsDecided-prop P (remainder row modulus rest) = hlevel props
IsDecided-prop P (remainder column modulus rest) = hlevel props

Steps-prop : (P p : ℕ) (f : Formula) → IsProp (Steps P p f)
Steps-prop P p (number n) = hlevel props
Steps-prop P p (coordinate row) = hlevel props
Steps-prop P p (coordinate column) = hlevel props
Steps-prop P p (read g i j) = hlevel props
Steps-prop P p (unary op a) = Steps-prop P p a
Steps-prop P p (binary op a b) = hlevel (Steps-prop P p a, Steps-prop P p b, props)
Steps-prop P p (ternary op a b c) = hlevel (Steps-prop P p a, Steps-prop P p b, Steps-prop P p c, props)
Steps-prop P p (literal op a n) = Steps-prop P p a
Steps-prop P p (lookup t a) = Steps-prop P p a
Steps-prop P p (select a relation b first second) =
    hlevel (Steps-prop P p a, Steps-prop P p b, Steps-prop P p first, Steps-prop P p second, props)
Steps-prop P p (stencil g divisor kernel) = hlevel props

pub ArePhasesOf-prop : (phases : List Function) (cases : List JobCase) (otherwise : Option Formula) → IsProp (ArePhasesOf phases cases otherwise)
ArePhasesOf-prop phases cases otherwise = hlevel (IsDecided-prop, Steps-prop, props)
