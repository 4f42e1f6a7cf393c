-- Reads that stay within the domains of what they read, point by point, and the first that does not.
use Rattle.std.specs.Prelude.{ℕ, ◌<◌, ◌/◌, ℤ, pos, ◌+ℤ◌, ◌≤ℤ◌, ◌≡◌, Option, Some, None, List, [], ◌∷◌, ◌++◌, map, slice_get}
use Rattle.domains.specs.Span.{Ends, Holds}
use Rattle.domains.specs.Area.{HoldsPoint}
use Rattle.domains.specs.Index.{Scale, index_at}
use Rattle.domains.specs.declared.area.Area.{Area}
use Rattle.pipe_tree.specs.declared.tree.Index.{Index}
use Rattle.pipe_tree.specs.declared.tree.Test.{Test}
use Rattle.pipe_tree.specs.Tree.{Node, Branch, Declaration, param, image, table, function, accumulator, output}
use Rattle.pipe_checks.specs.declared.symbol.Symbol.{Symbol}
use Rattle.pipe_bounds.specs.declared.fault.Axis.{Axis}
use Rattle.pipe_bounds.specs.declared.fault.Axis.TheVariants.{Rows, Columns}
use Rattle.pipe_bounds.specs.declared.fault.BoundFault.{BoundFault}
use Rattle.pipe_bounds.specs.declared.fault.BoundFault.TheVariants.{ParamUnset, EmptyDomain, DomainTooWide, OutOfBounds, Memory}
use Rattle.pipe_bounds.specs.declared.fault.BoundFault.TheVariants.{EmptyTable, TableTooWide}
use Rattle.pipe_bounds.specs.declared.domain.IntervalFault.TheVariants.{Empty, TooWide}
use Rattle.pipe_bounds.specs.declared.params.Setting.{Setting}
use Rattle.pipe_checks.specs.declared.access.Access.{Access}
use Rattle.pipe_checks.specs.declared.access.Access.TheVariants.{Read, Stencil}
use Rattle.pipe_bounds.specs.Boxes.{BoundsHold}
use Rattle.pipe_checks.specs.Names.{tables_of, stages_of}
use Rattle.pipe_checks.specs.Accesses.{accesses_of, stage_read}
use Rattle.pipe_bounds.specs.Within.{AllSet, IsFirstUnset, HaveDomains, IsFirstFaultyDomain}
use Rattle.pipe_bounds.specs.Tables.{TablesStand, IsFirstFaultyTable}

-- ---- cases

-- the name of the variable of the rows, the tests of a condition, and the reads and stencils in the order of the text
pub record ReadCase : Type 0 where
  pub row : List ℕ
  pub tests : List Test
  pub accesses : List Access

abbrev pub branch_case : List Symbol → List ℕ → Branch → ReadCase
branch_case stages row b = record { row = row; tests = b.condition; accesses = accesses_of stages b.value }

-- a case without a condition
abbrev pub whole_case : List ℕ → List Access → ReadCase
whole_case row accesses = record { row = row; tests = []; accesses = accesses }

abbrev pub otherwise_cases : List Symbol → List ℕ → Option Node → List ReadCase
otherwise_cases stages row None = []
otherwise_cases stages row (Some a) = whole_case row (accesses_of stages a) ∷ []

-- the cases of an item by their numbers: `else` comes after the others, and an accumulator is one case
abbrev pub item_cases : List Symbol → Declaration → List ReadCase
item_cases stages (param p) = []
item_cases stages (image i) = []
item_cases stages (table t) = []
item_cases stages (function f) = map (branch_case stages f.row.name) f.cases ++ otherwise_cases stages f.row.name f.otherwise
item_cases stages (accumulator a) = whole_case a.row.name (accesses_of stages a.value ++ accesses_of stages a.bin) ∷ []
item_cases stages (output o) = []

abbrev pub declared_cases : List Symbol → Option Declaration → List ReadCase
declared_cases stages None = []
declared_cases stages (Some d) = item_cases stages d

-- those of the item that declares a stage
abbrev pub stage_cases : List Declaration → List Symbol → Symbol → List ReadCase
stage_cases ds stages s = declared_cases stages (slice_get ds s.item)

-- a point lies in the box of a case: in the domain, and the tests of bounds hold there
abbrev pub IsInBox : List Setting → Area → ReadCase → ℤ → ℤ → Type 0
IsInBox ss domain x r c = HoldsPoint domain r c × BoundsHold ss x.row x.tests r c

-- ---- the indices of a read

-- an index of the text, over integers
abbrev pub scale_of : Index → Scale
scale_of i = record { mul = pos i.mul; add = i.add; div = pos i.div }

-- w lies within n of v
abbrev pub IsAbout : ℕ → ℤ → ℤ → Type 0
IsAbout n v w = (v ≤ℤ (w +ℤ pos n)) × (w ≤ℤ (v +ℤ pos n))

-- the rows that are taken at row r: one by an index, and as many as the kernel has by a stencil
abbrev pub TakesRow : Access → ℤ → ℤ → Type 0
TakesRow (Read g i j) r x = x ≡ index_at (scale_of i) r
TakesRow (Stencil g m n) r x = IsAbout (m / 2) r x

abbrev pub TakesColumn : Access → ℤ → ℤ → Type 0
TakesColumn (Read g i j) c y = y ≡ index_at (scale_of j) c
TakesColumn (Stencil g m n) c y = IsAbout (n / 2) c y

-- ---- in bounds. The areas are the domains of the stages, by their numbers

-- the point of row x and column y lies in the domain of stage g
pub record IsWithin (areas : List Area) (g : ℕ) (x y : ℤ) : Type 0 where
  pub domain : Area
  pub there : slice_get areas g ≡ Some domain
  pub holds : HoldsPoint domain x y

-- at each point of the box, each point that is taken lies in the domain of the stage that is read
abbrev pub Stays : List Area → (ℤ → ℤ → Type 0) → Access → Type 0
Stays areas Box access =
    (r c : ℤ) → Box r c → (x y : ℤ) → TakesRow access r x → TakesColumn access c y → IsWithin areas (stage_read access) x y

abbrev pub AllStay : List Area → (ℤ → ℤ → Type 0) → List Access → Type 0
AllStay areas Box accesses = (m : ℕ) (access : Access) → slice_get accesses m ≡ Some access → Stays areas Box access

-- each read of each case of a stage stays in bounds
abbrev pub StageStays : List Setting → List Area → Area → List ReadCase → Type 0
StageStays ss areas domain cases =
    (n : ℕ) (x : ReadCase) → slice_get cases n ≡ Some x → AllStay areas (IsInBox ss domain x) x.accesses

-- the same for stage k
abbrev pub StaysAt : List Setting → List Declaration → List Symbol → List Area → ℕ → Symbol → Type 0
StaysAt ss ds stages areas k s = (domain : Area) → slice_get areas k ≡ Some domain → StageStays ss areas domain (stage_cases ds stages s)

abbrev pub AreInBounds : List Setting → List Declaration → List Symbol → List Area → Type 0
AreInBounds ss ds stages areas = (k : ℕ) (s : Symbol) → slice_get stages k ≡ Some s → StaysAt ss ds stages areas k s

-- a program is in bounds at the values of its parameters: all are set, each table has its span and each stage its domain, and
-- each read stays in bounds
pub record IsInBounds (ss : List Setting) (ds : List Declaration) : Type 0 where
  pub set : AllSet ss
  pub tables : TablesStand ss ds (tables_of ds)
  pub areas : List Area
  pub domains : HaveDomains ss ds (stages_of ds) areas
  pub stays : AreInBounds ss ds (stages_of ds) areas

-- ---- a read that leaves

-- a number that is taken along an axis at some point of the box
abbrev pub IsTakenAlong : (ℤ → ℤ → Type 0) → Access → Axis → ℤ → Type 0
IsTakenAlong Box access Rows v = (r c : ℤ) × Box r c × TakesRow access r v
IsTakenAlong Box access Columns v = (r c : ℤ) × Box r c × TakesColumn access c v

abbrev pub side_of : Axis → Area → Ends
side_of Rows a = a.rows
side_of Columns a = a.cols

-- all that is taken along an axis lies in the domain
abbrev pub StaysAlong : (ℤ → ℤ → Type 0) → Access → Area → Axis → Type 0
StaysAlong Box access domain axis = (v : ℤ) → IsTakenAlong Box access axis v → Holds (side_of axis domain) v

-- the least and the greatest of some numbers
pub record AreExtremes (Is : ℤ → Type 0) (least greatest : ℤ) : Type 0 where
  pub first : Is least
  pub last : Is greatest
  pub between : (v : ℤ) → Is v → (least ≤ℤ v) × (v ≤ℤ greatest)

-- a read leaves the domain of what it reads along this axis, and takes numbers from the least to the greatest along it. The
-- columns are reported only if it stays along the rows
pub record Leaves (areas : List Area) (Box : ℤ → ℤ → Type 0) (access : Access) (axis : Axis) (least greatest : ℤ) : Type 0 where
  pub domain : Area
  pub there : slice_get areas (stage_read access) ≡ Some domain
  pub leaves : ¬ (StaysAlong Box access domain axis)
  pub extremes : AreExtremes (IsTakenAlong Box access axis) least greatest
  pub rows : axis ≡ Columns → StaysAlong Box access domain Rows

-- ---- the first read that leaves

-- f reports that read m of case n of stage k leaves its domain
pub record TellsRead (areas : List Area) (Box : ℤ → ℤ → Type 0) (access : Access) (k n m : ℕ) (f : BoundFault) : Type 0 where
  pub axis : Axis
  pub least : ℤ
  pub greatest : ℤ
  pub told : f ≡ OutOfBounds k n m axis least greatest
  pub leaves : Leaves areas Box access axis least greatest

-- the first of the reads of case n of stage k: those before it stay
pub record IsFirstRead (areas : List Area) (Box : ℤ → ℤ → Type 0) (accesses : List Access) (k n : ℕ) (f : BoundFault) : Type 0 where
  pub number : ℕ
  pub access : Access
  pub there : slice_get accesses number ≡ Some access
  pub before : (m : ℕ) (y : Access) → m < number → slice_get accesses m ≡ Some y → Stays areas Box y
  pub tells : TellsRead areas Box access k n number f

-- the first of the cases of stage k
pub record IsFirstCase (ss : List Setting) (areas : List Area) (domain : Area) (cases : List ReadCase) (k : ℕ) (f : BoundFault) : Type 0
  where
    pub number : ℕ
    pub place : ReadCase
    pub there : slice_get cases number ≡ Some place
    pub before : (n : ℕ) (y : ReadCase) → n < number → slice_get cases n ≡ Some y → AllStay areas (IsInBox ss domain y) y.accesses
    pub read : IsFirstRead areas (IsInBox ss domain place) place.accesses k number f

-- the first of the stages
pub record IsFirstStage (ss : List Setting) (ds : List Declaration) (stages : List Symbol) (areas : List Area) (f : BoundFault) : Type 0
  where
    pub number : ℕ
    pub stage : Symbol
    pub there : slice_get stages number ≡ Some stage
    pub domain : Area
    pub has : slice_get areas number ≡ Some domain
    pub before : (k : ℕ) (y : Symbol) → k < number → slice_get stages k ≡ Some y → StaysAt ss ds stages areas k y
    pub case : IsFirstCase ss areas domain (stage_cases ds stages stage) number f

-- f reports the first read that leaves what it reads, in a program whose stages have domains
pub record IsFirstDeparture (ss : List Setting) (ds : List Declaration) (f : BoundFault) : Type 0 where
  pub areas : List Area
  pub domains : HaveDomains ss ds (stages_of ds) areas
  pub stage : IsFirstStage ss ds (stages_of ds) areas f

-- ---- the fault of a program, except for memory

abbrev pub IsBoundFault : List Setting → List Declaration → BoundFault → Type 0
IsBoundFault ss ds (ParamUnset n) = IsFirstUnset ss n
IsBoundFault ss ds (EmptyTable k) = AllSet ss × IsFirstFaultyTable ss ds (tables_of ds) Empty k
IsBoundFault ss ds (TableTooWide k) = AllSet ss × IsFirstFaultyTable ss ds (tables_of ds) TooWide k
IsBoundFault ss ds (EmptyDomain k) =
    AllSet ss × TablesStand ss ds (tables_of ds) × IsFirstFaultyDomain ss ds (stages_of ds) Empty k
IsBoundFault ss ds (DomainTooWide k) =
    AllSet ss × TablesStand ss ds (tables_of ds) × IsFirstFaultyDomain ss ds (stages_of ds) TooWide k
IsBoundFault ss ds (OutOfBounds k n m axis least greatest) =
    AllSet ss × TablesStand ss ds (tables_of ds) × IsFirstDeparture ss ds (OutOfBounds k n m axis least greatest)
IsBoundFault ss ds Memory = Unit {0}
