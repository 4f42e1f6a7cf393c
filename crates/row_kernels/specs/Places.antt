-- Where the points of an area are among its values.
use Rattle.std.specs.Prelude.{ℕ, ◌+◌, ◌*◌, ℤ}
use Rattle.std.specs.Int.{int_gap}
use Rattle.domains.specs.Span.{len_of}
use Rattle.domains.specs.declared.area.Area.{Area}

-- the place of a point in the values of an area
abbrev pub place_of : Area → ℤ → ℤ → ℕ
place_of area r c = int_gap area.rows.lo r * len_of area.cols + int_gap area.cols.lo c
