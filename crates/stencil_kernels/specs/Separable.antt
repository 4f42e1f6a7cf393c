-- Separable kernels: products of a column and a row of factors.
use Rattle.std.specs.Prelude.{◌≡◌, ℤ, ◌*ℤ◌, List, length}
use Rattle.operators.specs.Values.{factors}
use Rattle.row_loops.specs.Rows.{EachPlace, at}

-- the numbers of a row are those of another one, each times a factor
pub record IsMultiple (row : List ℤ) (times : ℤ) (other : List ℤ) : Type 0 where
  pub width : length row ≡ length other
  pub products : EachPlace (length other) (λ b. at row b ≡ times *ℤ at other b)

-- the factor in row a and column b of the kernel is number a down times number b along
pub record IsSeparable (kernel : List (List ℤ)) (down along : List ℤ) : Type 0 where
  pub height : length kernel ≡ length down
  pub rows : EachPlace (length down) (λ a. IsMultiple (factors kernel a) (at down a) along)
