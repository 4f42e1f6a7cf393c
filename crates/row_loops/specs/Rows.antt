-- Rows of numbers.
use Rattle.std.specs.Prelude.{ℕ, ℤ, pos, ◌<◌, List, slice_index_or}

-- the number at a place of a row, and 0 past its end
abbrev pub at : List ℤ → ℕ → ℤ
at xs k = slice_index_or xs k (pos 0)

-- P holds of each of the first n places
abbrev pub EachPlace : ℕ → (ℕ → Type 0) → Type 0
EachPlace n P = (k : ℕ) → k < n → P k
