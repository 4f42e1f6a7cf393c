-- The next row of a ring.
use Rattle.std.specs.Prelude.{ℕ, ◌+◌, ◌<◌, ◌≡◌, ℤ, pos, ◌+ℤ◌, Option, Some, List, length, map, slice_get}
use Rattle.std.specs.Option.{option_map}
use Rattle.domains.specs.Area.{HoldsPoint}
use Rattle.domains.specs.Span.{len_of}
use Rattle.domains.specs.declared.area.Area.{Area}
use Rattle.netpbm.specs.Image.{Image}
use Rattle.job.specs.Formula.{Formula}
use Rattle.job.specs.Pipeline.{JobCase, Stage, Pipeline}
use Rattle.job.specs.Reads.{BodyReads}
use Rattle.job.specs.Values.{Valuation, value, sample_at}
use Rattle.job.specs.Views.{case_view, formula_view}
use Rattle.job.specs.WellFormed.{IsValued}
use Rattle.job.specs.declared.stage.Function.{Function}
use Rattle.row_loops.specs.Rows.{EachPlace, at}
use Rattle.row_plans.specs.Rows.{next_row, one_row_more}
use Rattle.row_plans.specs.declared.row_state.RowState.{RowState}
use Rattle.row_rings.specs.RingRows.{row_at, sample_in, IsKeptPoint}
use Rattle.row_rings.specs.declared.ring.RowRing.{RowRing}
use Rattle.tile_eval.specs.Cases.{function_value, IsComputable}
use Rattle.tile_eval.specs.Reading.{HasFunctionRoom}
use Rattle.value_ranges.specs.Narrow.{Fits16}

-- row y of a picture that has plane n, counted from the first one, has so many samples
abbrev pub IsPictureRow : Image → ℕ → ℕ → ℕ → Type 0
IsPictureRow picture n y count = (n < length picture.planes) × (y < picture.rows) × (count ≡ picture.cols)

-- its samples fit in 16 bits
abbrev pub IsFittingRow : Image → ℕ → ℕ → Type 0
IsFittingRow picture n y = EachPlace picture.cols (λ k. Fits16 (sample_at picture n (pos y) (pos k)))

-- at n points of row r from column c on the values of a function fit in 16 bits
abbrev pub AreFittingValues : Valuation → List JobCase → Option Formula → ℤ → ℤ → ℕ → Type 0
AreFittingValues env cases otherwise r c n = EachPlace n (λ k. Fits16 (function_value env cases otherwise r (c +ℤ pos k)))

-- row r of an area alone
abbrev pub row_area : Area → ℤ → Area
row_area area r = record { rows = record { lo = r; hi = r }; cols = area.cols }

-- a function can be computed on an area of one row, into so many numbers, with a buffer of so many for operands
pub record IsRowToWrite (rings : List (RowRing ℤ)) (f : Function) (area : Area) (n temps : ℕ) : Type 0 where
  pub one : area.rows.hi ≡ area.rows.lo
  pub function : IsComputable (IsKeptPoint rings) area (map case_view f.cases.items) (option_map formula_view f.otherwise)
  pub count : n ≡ len_of area.cols
  pub room : HasFunctionRoom (len_of area.cols) temps (map case_view f.cases.items) (option_map formula_view f.otherwise)

-- n numbers are its values on that area
abbrev pub IsFunctionRow : List (RowRing ℤ) → Function → Area → ℕ → List ℤ → Type 0
IsFunctionRow rings f area n line =
    EachPlace n
    (λ k. at line k
    ≡ function_value (sample_in rings) (map case_view f.cases.items) (option_map formula_view f.otherwise) area.rows.lo (area.cols.lo +ℤ pos k))

-- the next row of stage g is one of its domain, and all that it reads is kept
pub record IsMakeable (job : Pipeline) (rings : List (RowRing ℤ)) (g : ℕ) (state : RowState) : Type 0 where
  pub stage : Stage
  pub there : slice_get job.stages g ≡ Some stage
  pub valued : IsValued stage.body
  pub area : state.area ≡ stage.domain
  pub left : state.next < len_of state.area.rows
  pub reads : (c : ℤ) → HoldsPoint stage.domain (next_row state) c → BodyReads (IsKeptPoint rings) stage.body (next_row state) c

-- the numbers are the values of stage g along row r of an area
abbrev pub IsValueRow : Pipeline → ℕ → Area → ℤ → List ℤ → Type 0
IsValueRow job g area r line = EachPlace (len_of area.cols) (λ k. at line k ≡ value job g r (area.cols.lo +ℤ pos k))

-- a ring of stage g once its next row is made: as many of the rows before it as are kept stay as they are
pub record HasOneRowMore (job : Pipeline) (g : ℕ) (old new : RowRing ℤ) : Type 0 where
  pub state : new.state ≡ one_row_more old.state
  pub older : (y : ℕ) → y < old.state.next → old.state.next < y + old.state.kept → row_at new y ≡ row_at old y
  pub made : IsValueRow job g old.state.area (next_row old.state) (row_at new old.state.next)
