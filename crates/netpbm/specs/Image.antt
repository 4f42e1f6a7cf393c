-- A picture as contracts see it.
use Rattle.std.specs.Prelude.{◌≡◌, ℕ, ◌*◌, ◌≤◌, ◌⊎◌, List, length, All}

-- rows from top to bottom, each from left to right; one plane of grey samples, or planes of red, green and blue ones
pub record Image : Type 0 where
  pub rows : ℕ
  pub cols : ℕ
  pub max : ℕ
  pub planes : List (List ℕ)

abbrev pub image : ℕ → ℕ → ℕ → List (List ℕ) → Image
image rows cols max planes = record { rows = rows; cols = cols; max = max; planes = planes }

-- from 1 to the limit
pub record InRange (limit n : ℕ) : Type 0 where
  pub least : 1 ≤ n
  pub most : n ≤ limit

-- `area` samples, none of them above the greatest
pub record IsPlane (area max : ℕ) (plane : List ℕ) : Type 0 where
  pub whole : length plane ≡ area
  pub bounded : All (λ sample. sample ≤ max) plane

-- what a picture may have besides its samples
pub record AreSizes (rows cols max colours : ℕ) : Type 0 where
  pub high : InRange 4096 rows
  pub wide : InRange 4096 cols
  pub deep : InRange 65535 max
  pub coloured : (colours ≡ 1) ⊎ (colours ≡ 3)

pub record IsImage (p : Image) : Type 0 where
  pub rows : InRange 4096 p.rows
  pub cols : InRange 4096 p.cols
  pub max : InRange 65535 p.max
  pub colours : (length p.planes ≡ 1) ⊎ (length p.planes ≡ 3)
  pub planes : All (IsPlane (p.rows * p.cols) p.max) p.planes
