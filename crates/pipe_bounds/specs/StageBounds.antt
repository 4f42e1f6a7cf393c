-- The bounds of each stage: its domain, the bins of an accumulator, and the boxes of a function's cases.
use Rattle.std.specs.Prelude.{ℕ, ◌≡◌, Option, Some, None, Ok, List, [], length, map, slice_get, IfSome}
use Rattle.domains.specs.Span.{Ends}
use Rattle.domains.specs.Area.{IsArea}
use Rattle.domains.specs.Cuts.{IsCutArea}
use Rattle.domains.specs.declared.area.Area.{Area}
use Rattle.pipe_tree.specs.declared.tree.Test.{Test}
use Rattle.pipe_tree.specs.Tree.{Branch, Declaration, param, image, table, function, accumulator, output}
use Rattle.pipe_checks.specs.declared.symbol.Symbol.{Symbol}
use Rattle.pipe_bounds.specs.declared.params.Setting.{Setting}
use Rattle.pipe_bounds.specs.Settings.{affine_value}
use Rattle.pipe_bounds.specs.Boxes.{BoundsHold}
use Rattle.pipe_bounds.specs.Domains.{IsBins, IsDomain}

-- the bounds of a stage, as contracts see them; a case whose box has no point has none
pub record StageBounds : Type 0 where
  pub domain : Area
  pub bins : Option Ends
  pub boxes : List (Option Area)

abbrev pub domains_in : List StageBounds → List Area
domains_in found = map (λ b. b.domain) found

-- only an accumulator has bins
abbrev pub HasBins : List Setting → Declaration → Option Ends → Type 0
HasBins ss (param p) bins = bins ≡ None
HasBins ss (image i) bins = bins ≡ None
HasBins ss (table t) bins = bins ≡ None
HasBins ss (function f) bins = bins ≡ None
HasBins ss (accumulator a) bins =
    (e : Ends) × (bins ≡ Some e) × IsBins (affine_value ss a.bins.first) (affine_value ss a.bins.last) (Ok e)
HasBins ss (output o) bins = bins ≡ None

-- the part of a domain at whose points the tests of bounds hold
pub record IsBox (ss : List Setting) (row : List ℕ) (domain : Area) (tests : List Test) (box : Option Area) : Type 0 where
  pub points : IsCutArea (BoundsHold ss row tests) domain box
  pub area : IfSome box IsArea

-- the box of each case, in the order of the text
pub record AreBoxes (ss : List Setting) (row : List ℕ) (domain : Area) (cases : List Branch) (boxes : List (Option Area)) : Type 0 where
  pub each : length boxes ≡ length cases
  pub box : (n : ℕ) (b : Branch) (o : Option Area) → slice_get cases n ≡ Some b → slice_get boxes n ≡ Some o
      → IsBox ss row domain b.condition o

-- a function's cases have boxes; `else` and other items have none
abbrev pub HasBoxes : List Setting → Declaration → Area → List (Option Area) → Type 0
HasBoxes ss (param p) domain boxes = boxes ≡ []
HasBoxes ss (image i) domain boxes = boxes ≡ []
HasBoxes ss (table t) domain boxes = boxes ≡ []
HasBoxes ss (function f) domain boxes = AreBoxes ss f.row.name domain f.cases boxes
HasBoxes ss (accumulator a) domain boxes = boxes ≡ []
HasBoxes ss (output o) domain boxes = boxes ≡ []

-- the bounds of a stage that this item declares
pub record IsBoundsOf (ss : List Setting) (d : Declaration) (b : StageBounds) : Type 0 where
  pub domain : IsDomain ss d (Ok b.domain)
  pub bins : HasBins ss d b.bins
  pub boxes : HasBoxes ss d b.domain b.boxes

-- the same for each stage, in the order of the stages
pub record AreBoundsOf (ss : List Setting) (ds : List Declaration) (stages : List Symbol) (found : List StageBounds) : Type 0 where
  pub each : length found ≡ length stages
  pub stage : (k : ℕ) (s : Symbol) (b : StageBounds) → slice_get stages k ≡ Some s → slice_get found k ≡ Some b
      → (d : Declaration) × (slice_get ds s.item ≡ Some d) × IsBoundsOf ss d b
