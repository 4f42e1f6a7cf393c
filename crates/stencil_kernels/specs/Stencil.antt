-- Rows of kernels along lines of numbers.
use Rattle.std.specs.Prelude.{ℕ, ◌+◌, ℤ, ◌*ℤ◌, List, length}
use Rattle.operators.specs.Values.{sum_below}
use Rattle.row_loops.specs.Rows.{at}

-- the factors times the numbers from place k on, added up exactly
abbrev pub tap_sum : List ℤ → List ℤ → ℕ → ℤ
tap_sum stencil line k = sum_below (length stencil) (λ b. at stencil b *ℤ at line (k + b))
