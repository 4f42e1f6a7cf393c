-- The spans of indices that reads take over areas, and the results of the parts of `bounds`. Only inner contracts cite this.
use Rattle.std.specs.Prelude.{ℕ, ◌<◌, ◌≤◌, ◌/◌, ℤ, pos, negsuc, ◌+ℤ◌, ◌≤ℤ◌}
use Rattle.std.specs.Prelude.{◌≡◌, ◌⊎◌, Option, Some, None, Result, Ok, Err, List, length, slice_get}
use Rattle.domains.specs.Span.{Ends, Holds, IsSubspan}
use Rattle.domains.specs.Index.{IsIndex, IsImage}
use Rattle.domains.specs.declared.area.Area.{Area}
use Rattle.pipe_tree.specs.declared.tree.Table.{Table}
use Rattle.pipe_tree.specs.Tree.{Declaration, param, image, table, function, accumulator, output}
use Rattle.pipe_checks.specs.declared.symbol.Symbol.{Symbol}
use Rattle.pipe_bounds.specs.declared.domain.IntervalFault.{IntervalFault}
use Rattle.pipe_bounds.specs.declared.domain.IntervalFault.TheVariants.{Empty, TooWide}
use Rattle.pipe_bounds.specs.declared.fault.Axis.{Axis}
use Rattle.pipe_bounds.specs.declared.fault.Axis.TheVariants.{Rows, Columns}
use Rattle.pipe_bounds.specs.declared.fault.BoundFault.{BoundFault}
use Rattle.pipe_bounds.specs.declared.fault.BoundFault.TheVariants.{EmptyDomain, DomainTooWide, Memory, EmptyTable, TableTooWide}
use Rattle.pipe_bounds.specs.declared.params.Setting.{Setting}
use Rattle.pipe_checks.specs.declared.access.Access.{Access}
use Rattle.pipe_checks.specs.declared.access.Access.TheVariants.{Read, Stencil}
use Rattle.pipe_bounds.specs.declared.taken.Departure.{Departure}
use Rattle.pipe_bounds.specs.InBounds.{ReadCase, AllStay, StageStays, IsFirstRead, IsFirstCase, item_cases, scale_of}
use Rattle.pipe_bounds.specs.declared.domain.StageDomain.{StageDomain}
use Rattle.pipe_bounds.specs.Settings.{affine_value}
use Rattle.pipe_bounds.specs.Domains.{IsBins, IsDomain}
use Rattle.pipe_bounds.specs.StageBounds.{HasBins}
use Rattle.pipe_bounds.specs.Within.{IsFirstFaultyDomain}
use Rattle.pipe_bounds.specs.Tables.{IsFirstFaultyTable}

-- ---- the indices that are taken

-- t extends s by n at both ends
pub record IsWidened (n : ℕ) (s t : Ends) : Type 0 where
  pub lo : t.lo +ℤ pos n ≡ s.lo
  pub hi : t.hi ≡ s.hi +ℤ pos n

-- t has the least and the greatest index that a read or a stencil takes over the points of an area, on each axis
abbrev pub IsTaken : Access → Area → Area → Type 0
IsTaken (Read g i j) a t = IsImage (scale_of i) a.rows t.rows × IsImage (scale_of j) a.cols t.cols
IsTaken (Stencil g m n) a t = IsWidened (m / 2) a.rows t.rows × IsWidened (n / 2) a.cols t.cols

-- along this axis the taken indices leave the domain, from the least to the greatest index; rows come before columns
abbrev pub LeavesAlong : Area → Area → Axis → ℤ → ℤ → Type 0
LeavesAlong t d Rows least greatest =
    (IsSubspan t.rows d.rows → ⊥) × (least ≡ t.rows.lo) × (greatest ≡ t.rows.hi)
LeavesAlong t d Columns least greatest =
    IsSubspan t.rows d.rows × (IsSubspan t.cols d.cols → ⊥) × (least ≡ t.cols.lo) × (greatest ≡ t.cols.hi)

abbrev pub IsDeparture : Area → Area → Departure → Type 0
IsDeparture t d x = LeavesAlong t d x.axis x.least x.greatest

-- the taken indices lie in the domain
abbrev pub StaysWithin : Area → Area → Type 0
StaysWithin t d = IsSubspan t.rows d.rows × IsSubspan t.cols d.cols

-- the taken indices lie in the domain, or leave it
abbrev pub IsDeparting : Area → Area → Option Departure → Type 0
IsDeparting t d None = StaysWithin t d
IsDeparting t d (Some x) = IsDeparture t d x

-- ---- what `check` and the domains ensure of indices

-- each number lies within 16,384 of 0
abbrev pub InDomainRange : Ends → Type 0
InDomainRange s = (v : ℤ) → Holds s v → (negsuc 16383 ≤ℤ v) × (v ≤ℤ pos 16384)

abbrev pub InDomainRanges : Area → Type 0
InDomainRanges a = InDomainRange a.rows × InDomainRange a.cols

-- a read of one of `count` stages at indices in their ranges, or a stencil with short sides
abbrev pub IsSound : ℕ → Access → Type 0
IsSound count (Read g i j) = (g < count) × IsIndex (scale_of i) × IsIndex (scale_of j)
IsSound count (Stencil g m n) = (g < count) × (m ≤ 15) × (n ≤ 15)

abbrev pub AreSound : ℕ → List Access → Type 0
AreSound count accesses = (m : ℕ) (access : Access) → slice_get accesses m ≡ Some access → IsSound count access

abbrev pub AreSoundCases : ℕ → List ReadCase → Type 0
AreSoundCases count cases = (n : ℕ) (x : ReadCase) → slice_get cases n ≡ Some x → AreSound count x.accesses

abbrev pub AreSoundItems : List Symbol → List Declaration → Type 0
AreSoundItems stages ds = (k : ℕ) (d : Declaration) → slice_get ds k ≡ Some d → AreSoundCases (length stages) (item_cases stages d)

-- each stage is declared by an item
abbrev pub AreDeclared : List Declaration → List Symbol → Type 0
AreDeclared ds stages = (k : ℕ) (s : Symbol) → slice_get stages k ≡ Some s → s.item < length ds

-- each table is declared by an item that declares a table
abbrev pub AreTables : List Declaration → List Symbol → Type 0
AreTables ds tables = (k : ℕ) (s : Symbol) → slice_get tables k ≡ Some s → (t : Table) × (slice_get ds s.item ≡ Some (table t))

-- ---- the domain and the bins of an item's stages, and the span of a table

abbrev pub IsPlace : List Setting → Declaration → StageDomain → Type 0
IsPlace ss d place = IsDomain ss d (Ok place.domain) × HasBins ss d place.bins

abbrev pub IsPlaced : List Setting → Declaration → Result StageDomain IntervalFault → Type 0
IsPlaced ss d (Ok place) = IsPlace ss d place
IsPlaced ss d (Err f) = IsDomain ss d (Err f)

-- other items have no span
abbrev pub IsItemSpan : List Setting → Declaration → Result Ends IntervalFault → Type 0
IsItemSpan ss (param p) r = r ≡ Err Empty
IsItemSpan ss (image i) r = r ≡ Err Empty
IsItemSpan ss (table t) r = IsBins (affine_value ss t.span.first) (affine_value ss t.span.last) r
IsItemSpan ss (function f) r = r ≡ Err Empty
IsItemSpan ss (accumulator a) r = r ≡ Err Empty
IsItemSpan ss (output o) r = r ≡ Err Empty

-- ---- results

-- a value for which Good holds, or else a fault for which Wrong holds, or memory
abbrev pub IsAnswer : {X : Type 0} → (X → Type 0) → (BoundFault → Type 0) → Result X BoundFault → Type 0
IsAnswer Good Wrong (Ok x) = Good x
IsAnswer Good Wrong (Err f) = (f ≡ Memory) ⊎ Wrong f

-- for the reads of case n of stage k over a box
abbrev pub AnswersReads : List Area → (ℤ → ℤ → Type 0) → List Access → ℕ → ℕ → Result (Unit {0}) BoundFault → Type 0
AnswersReads areas Box accesses k n r = IsAnswer (λ u. AllStay areas Box accesses) (IsFirstRead areas Box accesses k n) r

-- for the cases of stage k
abbrev pub AnswersCases : List Setting → List Area → Area → List ReadCase → ℕ → Result (Unit {0}) BoundFault → Type 0
AnswersCases ss areas domain cases k r = IsAnswer (λ u. StageStays ss areas domain cases) (IsFirstCase ss areas domain cases k) r

abbrev pub stage_domain_fault : IntervalFault → ℕ → BoundFault
stage_domain_fault Empty k = EmptyDomain k
stage_domain_fault TooWide k = DomainTooWide k

-- f reports the first stage whose domain is faulty
pub record TellsDomain (ss : List Setting) (ds : List Declaration) (stages : List Symbol) (f : BoundFault) : Type 0 where
  pub fault : IntervalFault
  pub stage : ℕ
  pub told : f ≡ stage_domain_fault fault stage
  pub first : IsFirstFaultyDomain ss ds stages fault stage

abbrev pub table_span_fault : IntervalFault → ℕ → BoundFault
table_span_fault Empty k = EmptyTable k
table_span_fault TooWide k = TableTooWide k

-- f reports the first table whose span is faulty
pub record TellsTable (ss : List Setting) (ds : List Declaration) (tables : List Symbol) (f : BoundFault) : Type 0 where
  pub fault : IntervalFault
  pub number : ℕ
  pub told : f ≡ table_span_fault fault number
  pub first : IsFirstFaultyTable ss ds tables fault number
