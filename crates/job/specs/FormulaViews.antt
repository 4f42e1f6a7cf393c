-- What contracts see of a formula in memory: without where its parts lie.
use Rattle.job.specs.declared.formula.Formula.{Formula as KeptFormula}
use Rattle.job.specs.declared.formula.Formula.TheVariants.{Number, Coordinate, Read, Unary'}
use Rattle.job.specs.declared.formula.Formula.TheVariants.{Binary', Ternary', Literal', Lookup', Select'}
use Rattle.job.specs.declared.formula.Formula.TheVariants.{Stencil}
use Rattle.operators.specs.Views.{axis_view}
use Rattle.job.specs.Formula.{Formula, number, coordinate, read, unary, binary, ternary, literal, lookup, select, stencil}

abbrev pub formula_view : KeptFormula → Formula
formula_view (Number n) = number n
formula_view (Coordinate x) = coordinate (axis_view x)
formula_view (Read g i j) = read g i j
formula_view (Unary' op p a) = unary op (formula_view a)
formula_view (Binary' op p a q b) = binary op (formula_view a) (formula_view b)
formula_view (Ternary' op p a q b r c) = ternary op (formula_view a) (formula_view b) (formula_view c)
formula_view (Literal' op p a n) = literal op (formula_view a) n
formula_view (Lookup' t p a) = lookup t (formula_view a)
formula_view (Select' p a relation q b r c s d) = select (formula_view a) relation (formula_view b) (formula_view c) (formula_view d)
formula_view (Stencil g divisor kernel) = stencil g divisor kernel
