-- What is known of the items of a program that was checked and is in bounds.
use Rattle.std.specs.Prelude.{ℕ, ◌<◌, ◌^◌, ◌≡◌, Option, Some, List, All, length, map, slice_get}
use Rattle.std.specs.Option.{ForSome}
use Rattle.domains.specs.Index.{IsIndex}
use Rattle.domains.specs.declared.area.Area.{Area}
use Rattle.pipe_tree.specs.declared.tree.Image.{Image}
use Rattle.pipe_tree.specs.declared.tree.Names.{Names}
use Rattle.pipe_tree.specs.declared.tree.Names.TheVariants.{One, Three}
use Rattle.pipe_tree.specs.Tree.{Function, Accumulator, Node, number, variable, read, lookup, unary, binary, ternary, literal, select}
use Rattle.pipe_tree.specs.Tree.{stencil, Branch, Declaration, param, image, table, function, accumulator, output}
use Rattle.pipe_bounds.specs.StageBounds.{StageBounds}
use Rattle.job.specs.Boxes.{box_of}
use Rattle.binding.specs.Binding.{Program, Variables, variables_of, stage_number, table_named, test_of, ends_of, area_of, plane_area}
use Rattle.tables.specs.declared.table.Table.{Table}
use Rattle.tables.specs.Entries.{AreEntries, span_from}
use Rattle.pipe_bounds.specs.InBounds.{scale_of}

-- a table of this name is supplied, and has entries
pub record HasEntries (tables : List Table) (x : List ℕ) : Type 0 where
  pub table : Table
  pub named : table_named tables x ≡ Some table
  pub entries : AreEntries (span_from table.lo (length table.values)) (length table.values)

-- its numbers fit 32 bits, its indices are in range, and its tables are supplied
abbrev pub IsRanged : List Table → Node → Type 0
IsRanged ts (number n) = n < 2 ^ 31
IsRanged ts (variable x) = Unit {0}
IsRanged ts (read x i j) = IsIndex (scale_of i) × IsIndex (scale_of j)
IsRanged ts (lookup x a) = HasEntries ts x × IsRanged ts a
IsRanged ts (unary op a) = IsRanged ts a
IsRanged ts (binary op a b) = IsRanged ts a × IsRanged ts b
IsRanged ts (ternary op a b c) = IsRanged ts a × IsRanged ts b × IsRanged ts c
IsRanged ts (literal op a n) = IsRanged ts a
IsRanged ts (select a relation b c d) = IsRanged ts a × IsRanged ts b × IsRanged ts c × IsRanged ts d
IsRanged ts (stencil x divisor kernel) = Unit {0}

abbrev pub IsRangedBranch : List Table → Branch → Type 0
IsRangedBranch ts b = IsRanged ts b.value

-- and so for all expressions of an item
abbrev pub IsRangedItem : List Table → Declaration → Type 0
IsRangedItem ts (param p) = Unit {0}
IsRangedItem ts (image i) = Unit {0}
IsRangedItem ts (table t) = Unit {0}
IsRangedItem ts (function f) = All (IsRangedBranch ts) f.cases × ForSome f.otherwise (IsRanged ts)
IsRangedItem ts (accumulator a) = IsRanged ts a.value × IsRanged ts a.bin
IsRangedItem ts (output o) = Unit {0}

-- ---- what was found of its stages, by their names

-- of the stage of this name
pub record HasBounds (p : Program) (found : List StageBounds) (x : List ℕ) (Is : StageBounds → Type 0) : Type 0 where
  pub bounds : StageBounds
  pub there : slice_get found (stage_number p x) ≡ Some bounds
  pub is : Is bounds

abbrev pub IsPlaneBounds : Program → Image → StageBounds → Type 0
IsPlaneBounds p i b = b.domain ≡ plane_area p i

-- the box of a case in a domain
abbrev pub box_in : Program → Variables → Area → Branch → Option Area
box_in p own domain b = box_of domain (map (test_of p own) b.condition)

pub record IsFunctionBounds (p : Program) (f : Function) (b : StageBounds) : Type 0 where
  pub domain : b.domain ≡ area_of p f.row f.column
  pub boxes : b.boxes ≡ map (box_in p (variables_of f.row f.column) b.domain) f.cases

pub record IsAccumulatorBounds (p : Program) (a : Accumulator) (b : StageBounds) : Type 0 where
  pub domain : b.domain ≡ area_of p a.row a.column
  pub bins : b.bins ≡ Some (ends_of p a.bins)

abbrev pub HavePlanes : Program → List StageBounds → Image → Names → Type 0
HavePlanes p found i (One x) = HasBounds p found x (IsPlaneBounds p i)
HavePlanes p found i (Three x y z) =
    HasBounds p found x (IsPlaneBounds p i) × HasBounds p found y (IsPlaneBounds p i) × HasBounds p found z (IsPlaneBounds p i)

abbrev pub IsBoundItem : Program → List StageBounds → Declaration → Type 0
IsBoundItem p found (param x) = Unit {0}
IsBoundItem p found (image i) = HavePlanes p found i i.names
IsBoundItem p found (table t) = Unit {0}
IsBoundItem p found (function f) = HasBounds p found f.name (IsFunctionBounds p f)
IsBoundItem p found (accumulator a) = HasBounds p found a.name (IsAccumulatorBounds p a)
IsBoundItem p found (output o) = Unit {0}

-- its stages can be made
pub record IsReady (p : Program) (found : List StageBounds) (item : Declaration) : Type 0 where
  pub ranged : IsRangedItem p.tables item
  pub bound : IsBoundItem p found item

-- all this holds of each item
pub record AreReady (p : Program) (found : List StageBounds) (items : List Declaration) : Type 0 where
  pub ranged : All (IsRangedItem p.tables) items
  pub bound : All (IsBoundItem p found) items
