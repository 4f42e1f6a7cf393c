-- Strips of the rows of a picture.
use Rattle.std.specs.Prelude.{ℕ, ◌+◌, ◌-◌, ◌*◌, min, List, slice_index}
use Rattle.raw_rows.specs.Rows.{raw_rows}
use Rattle.job.specs.Answers.{height_of}
use Rattle.job.specs.Pipeline.{Output, Pipeline}

-- how many rows the picture has
abbrev pub row_count : Pipeline → Output → ℕ
row_count job o = height_of job (slice_index o.stages 0)

-- where strip k begins, and where it ends, if each has so many rows
abbrev pub strip_start : ℕ → ℕ → ℕ → ℕ
strip_start height len k = min (k * len) height

abbrev pub strip_end : ℕ → ℕ → ℕ → ℕ
strip_end height len k = min (k * len + len) height

-- the bytes of strip k
abbrev pub strip_bytes : Pipeline → Output → ℕ → ℕ → List ℕ
strip_bytes job o len k =
    raw_rows job o (strip_start (row_count job o) len k) (strip_end (row_count job o) len k - strip_start (row_count job o) len k)
