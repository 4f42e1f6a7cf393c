-- How much work a point of a stage is.
use Rattle.std.specs.Prelude.{ℕ, ℤ, ◌+◌, Option, List, map, length}
use Rattle.std.specs.List.{sum}
use Rattle.std.specs.Option.{option_map_or}
use Rattle.job.specs.Formula.{Formula, number, coordinate, read, unary, binary, ternary, literal, lookup, select, stencil}
use Rattle.job.specs.Pipeline.{JobCase, Body, plane, function, accumulator}

-- the factors of a kernel
abbrev pub factors : List (List ℤ) → ℕ
factors kernel = sum (map length kernel)

-- the reads, the operators and the factors of kernels in a formula
abbrev pub work_in : Formula → ℕ
work_in (number n) = 0
work_in (coordinate x) = 0
work_in (read g i j) = 1
work_in (unary op a) = work_in a + 1
work_in (binary op a b) = work_in a + work_in b + 1
work_in (ternary op a b d) = work_in a + work_in b + work_in d + 1
work_in (literal op a n) = work_in a + 1
work_in (lookup t a) = work_in a + 1
work_in (select a relation b first second) = work_in a + work_in b + work_in first + work_in second + 1
work_in (stencil g divisor kernel) = factors kernel

abbrev pub work_of_case : JobCase → ℕ
work_of_case p = work_in p.formula

abbrev pub work_of_other : Option Formula → ℕ
work_of_other other = option_map_or work_in other 0

-- those in all formulas of a stage
abbrev pub work_of : Body → ℕ
work_of (plane n) = 0
work_of (function cases otherwise) = sum (map work_of_case cases) + work_of_other otherwise
work_of (accumulator fold bins value bin) = work_in value + work_in bin
