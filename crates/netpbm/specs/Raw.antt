-- Rasters with one byte or two per sample.
use Rattle.std.specs.Prelude.{ℕ, ◌+◌, ◌*◌, ◌/◌, ◌%◌, nat_lt, if◌then◌else◌, List, [], ◌∷◌}
use Rattle.std.specs.List.{flat_map, position_or_len}

-- how many bytes a sample has
abbrev pub width_of : ℕ → ℕ
width_of max = if nat_lt max 256 then 1 else 2

-- a number below 65536, the most significant byte first
abbrev pub two_bytes : ℕ → List ℕ
two_bytes sample = sample / 256 ∷ sample % 256 ∷ []

abbrev pub sample_bytes : ℕ → ℕ → List ℕ
sample_bytes max sample = if nat_lt max 256 then sample ∷ [] else two_bytes sample

abbrev pub raw_raster : ℕ → List ℕ → List ℕ
raw_raster max samples = flat_map (sample_bytes max) samples

-- the numbers that pairs of bytes spell
abbrev pub pairs : List ℕ → List ℕ
pairs [] = []
pairs (byte ∷ []) = []
pairs (high ∷ low ∷ bytes) = (256 * high + low) ∷ pairs bytes

-- the whole samples that bytes spell
abbrev pub decoded : ℕ → List ℕ → List ℕ
decoded max bytes = if nat_lt max 256 then bytes else pairs bytes

-- the place of the first sample above the greatest, or their number where there is none
abbrev pub first_big : ℕ → List ℕ → ℕ
first_big max samples = position_or_len (λ sample. nat_lt max sample) samples
