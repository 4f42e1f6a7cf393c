-- Formulas that end in an operator.
use Rattle.job.specs.Formula.{Formula, number, coordinate, read, unary, binary, ternary, literal, lookup, select, stencil}

-- two formulas that an operator joins
abbrev pub IsBinary : Formula → Type 0
IsBinary (number n) = ⊥
IsBinary (coordinate x) = ⊥
IsBinary (read g i j) = ⊥
IsBinary (unary op a) = ⊥
IsBinary (binary op a b) = Unit {0}
IsBinary (ternary op a b c) = ⊥
IsBinary (literal op a n) = ⊥
IsBinary (lookup t a) = ⊥
IsBinary (select a relation b first second) = ⊥
IsBinary (stencil g divisor kernel) = ⊥
