-- The domains of stages, at the values of the parameters.
use Rattle.std.specs.Prelude.{ℤ, pos, negsuc, ◌≤ℤ◌, ◌<ℤ◌, ◌+ℤ◌, ◌≡◌, ◌⊎◌, Result, Ok, Err, List}
use Rattle.domains.specs.Span.{Ends}
use Rattle.domains.specs.declared.area.Area.{Area}
use Rattle.pipe_tree.specs.declared.tree.AffineSpan.{AffineSpan}
use Rattle.pipe_tree.specs.Tree.{Declaration, param, image, table, function, accumulator, output}
use Rattle.pipe_bounds.specs.declared.domain.IntervalFault.{IntervalFault}
use Rattle.pipe_bounds.specs.declared.domain.IntervalFault.TheVariants.{Empty, TooWide}
use Rattle.pipe_bounds.specs.declared.params.Setting.{Setting}
use Rattle.pipe_bounds.specs.Settings.{affine_value}

-- the numbers from first to last, which are in order and within 16,384 of 0
pub record IsSpanFrom (first last : ℤ) (e : Ends) : Type 0 where
  pub lo : e.lo ≡ first
  pub hi : e.hi ≡ last
  pub ordered : first ≤ℤ last
  pub least : negsuc 16383 ≤ℤ first
  pub most : last ≤ℤ pos 16384

abbrev pub IsInterval : ℤ → ℤ → Result Ends IntervalFault → Type 0
IsInterval first last (Ok e) = IsSpanFrom first last e
IsInterval first last (Err Empty) = last <ℤ first
IsInterval first last (Err TooWide) = (first ≤ℤ last) × ((first <ℤ negsuc 16383) ⊎ (pos 16384 <ℤ last))

-- the rows or columns of a picture with sides of this length, 1 to 4096
pub record IsSides (side : ℤ) (e : Ends) : Type 0 where
  pub lo : e.lo ≡ pos 0
  pub hi : e.hi +ℤ pos 1 ≡ side
  pub least : pos 1 ≤ℤ side
  pub most : side ≤ℤ pos 4096

abbrev pub IsExtent : ℤ → Result Ends IntervalFault → Type 0
IsExtent side (Ok e) = IsSides side e
IsExtent side (Err Empty) = side <ℤ pos 1
IsExtent side (Err TooWide) = pos 4096 <ℤ side

-- at most 4,096 bins, or entries of a table
abbrev pub IsBins : ℤ → ℤ → Result Ends IntervalFault → Type 0
IsBins first last (Ok e) = IsSpanFrom first last e × (last <ℤ (first +ℤ pos 4096))
IsBins first last (Err Empty) = last <ℤ first
IsBins first last (Err TooWide) = (first ≤ℤ last) × (((first <ℤ negsuc 16383) ⊎ (pos 16384 <ℤ last)) ⊎ ((first +ℤ pos 4096) ≤ℤ last))

abbrev pub IsSpanOf : List Setting → AffineSpan → Result Ends IntervalFault → Type 0
IsSpanOf ss s = IsInterval (affine_value ss s.first) (affine_value ss s.last)

-- an area by its rows and its columns, or the fault of the rows, or else that of the columns
abbrev pub IsArea : (Result Ends IntervalFault → Type 0) → (Result Ends IntervalFault → Type 0) → Result Area IntervalFault → Type 0
IsArea Rows Columns (Ok a) = Rows (Ok a.rows) × Columns (Ok a.cols)
IsArea Rows Columns (Err f) = Rows (Err f) ⊎ ((rows : Ends) × Rows (Ok rows) × Columns (Err f))

-- what comes before an area: its fault takes precedence
abbrev pub IsAfter : (Result Ends IntervalFault → Type 0) → (Result Area IntervalFault → Type 0) → Result Area IntervalFault → Type 0
IsAfter Before Then (Ok a) = (e : Ends) × Before (Ok e) × Then (Ok a)
IsAfter Before Then (Err f) = Before (Err f) ⊎ ((e : Ends) × Before (Ok e) × Then (Err f))

-- the domain of a plane or a function, or the reduction domain of an accumulator, whose bins come first; other items have none
abbrev pub IsDomain : List Setting → Declaration → Result Area IntervalFault → Type 0
IsDomain ss (param p) r = r ≡ Err Empty
IsDomain ss (image i) r = IsArea (IsExtent (affine_value ss i.rows)) (IsExtent (affine_value ss i.columns)) r
IsDomain ss (table t) r = r ≡ Err Empty
IsDomain ss (function f) r = IsArea (IsSpanOf ss f.row.span) (IsSpanOf ss f.column.span) r
IsDomain ss (accumulator a) r =
    IsAfter (IsBins (affine_value ss a.bins.first) (affine_value ss a.bins.last))
    (IsArea (IsSpanOf ss a.row.span) (IsSpanOf ss a.column.span)) r
IsDomain ss (output o) r = r ≡ Err Empty
