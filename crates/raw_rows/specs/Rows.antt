-- Rows of the picture of a job, in numbers and in bytes.
use Rattle.std.specs.Prelude.{ℕ, ◌*◌, ℤ, pos, ◌+ℤ◌, List, [], length, map, slice_get, slice_index}
use Rattle.std.specs.List.{flat_map, range_with_len}
use Rattle.std.specs.Option.{option_map_or}
use Rattle.domains.specs.Span.{numbers_of}
use Rattle.netpbm.specs.Colours.{interleaved}
use Rattle.netpbm.specs.Raw.{raw_raster, width_of}
use Rattle.job.specs.Answers as Answers
use Rattle.job.specs.Answers.{sample_of}
use Rattle.job.specs.Pipeline.{Output, Pipeline}
use Rattle.job.specs.Values.{value}

-- the values of stage g in row y of its domain, where the first row is row 0, from the first column to the last
abbrev pub row_values : Pipeline → ℕ → ℕ → List ℤ
row_values job y g =
    option_map_or (λ s. map (λ c. value job g (s.domain.rows.lo +ℤ pos y) c) (numbers_of s.domain.cols)) (slice_get job.stages g) []

-- and its samples, each clamped to 0 and the greatest sample
abbrev pub row_samples : Pipeline → ℕ → ℕ → ℕ → List ℕ
row_samples job max y g = map (sample_of max) (row_values job y g)

-- the bytes of row y of an output's picture
abbrev pub raw_row : Pipeline → Output → ℕ → List ℕ
raw_row job o y = raw_raster o.max (interleaved (map (row_samples job o.max y) o.stages))

-- the bytes of n rows, from row y on
abbrev pub raw_rows : Pipeline → Output → ℕ → ℕ → List ℕ
raw_rows job o y n = flat_map (raw_row job o) (range_with_len y n)

-- how many bytes each row of an output's picture has
abbrev pub bytes_per_row : Pipeline → Output → ℕ
bytes_per_row job o = width_of o.max * (length o.stages * Answers.width_of job (slice_index o.stages 0))
