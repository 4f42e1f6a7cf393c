-- Places in a row that is kept.
use Rattle.std.specs.Prelude.{ℕ, ◌+◌, ◌<◌, ◌≡◌, ℤ, pos, ◌+ℤ◌, List, length, slice_index_or}
use Rattle.domains.specs.Index.{Scale, index_at}
use Rattle.row_kernels.specs.Columns.{column_gap}
use Rattle.row_loops.specs.Rows.{EachPlace}
use Rattle.row_rings.specs.RingRows.{number_at}
use Rattle.row_rings.specs.declared.ring.RowRing.{RowRing}

-- in a line the numbers of row r lie where an index takes them for n columns from column c on, counted from a place
pub record IsGatheredLine {T : Type 0} (ring : RowRing T) (r : ℤ) (x : Scale) (c : ℤ) (n : ℕ) (line : List T) (from : ℕ) : Type 0 where
  pub there : EachPlace n (λ k. from + column_gap x c k < length line)
  pub values : (d : T) → EachPlace n
      (λ k. slice_index_or line (from + column_gap x c k) d ≡ number_at d ring r (index_at x (c +ℤ pos k)))
