-- How large formulas are: the choice of instructions goes from formulas to smaller ones.
use Rattle.std.specs.Prelude.{ℕ, suc, ◌+◌}
use Rattle.job.specs.Formula.{Formula, number, coordinate, read, unary, binary, ternary, literal, lookup, select, stencil}

-- how many formulas there are in a formula, with it
abbrev pub formula_size : Formula → ℕ
formula_size (number n) = 1
formula_size (coordinate x) = 1
formula_size (read g i j) = 1
formula_size (unary op a) = suc (formula_size a)
formula_size (binary op a b) = suc (formula_size a + formula_size b)
formula_size (ternary op a b c) = suc (formula_size a + formula_size b + formula_size c)
formula_size (literal op a n) = suc (formula_size a)
formula_size (lookup t a) = suc (formula_size a)
formula_size (select a relation b first second) = suc (formula_size a + formula_size b + formula_size first + formula_size second)
formula_size (stencil g divisor kernel) = 1
