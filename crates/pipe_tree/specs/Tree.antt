-- A tree as plain data, without the addresses of its parts. Names are their bytes, affine sums the lists of their terms,
-- conditions the lists of their tests and kernels the lists of their rows.
use Rattle.std.specs.Prelude.{ℕ, ℤ, List, map, Option}
use Rattle.std.specs.Option.{option_map}
use Rattle.pipe_tree.specs.declared.tree.Test.{Test}
use Rattle.pipe_tree.specs.declared.tree.Index.{Index}
use Rattle.operators.specs.declared.operator.UnaryOp.{UnaryOp}
use Rattle.operators.specs.declared.operator.BinaryOp.{BinaryOp}
use Rattle.operators.specs.declared.operator.TernaryOp.{TernaryOp}
use Rattle.operators.specs.declared.operator.LiteralOp.{LiteralOp}
use Rattle.operators.specs.declared.operator.Relation.{Relation}
use Rattle.operators.specs.declared.operator.ReductionOp.{ReductionOp}
use Rattle.pipe_tree.specs.declared.tree.AffineSpan.{AffineSpan}
use Rattle.pipe_tree.specs.declared.tree.Variable.{Variable}
use Rattle.pipe_tree.specs.declared.tree.Param.{Param}
use Rattle.pipe_tree.specs.declared.tree.Image.{Image}
use Rattle.pipe_tree.specs.declared.tree.Table.{Table}
use Rattle.pipe_tree.specs.declared.tree.Output.{Output}
use Rattle.pipe_tree.specs.declared.tree.Case.{Case}
use Rattle.pipe_tree.specs.declared.tree.Cases.{Cases}
use Rattle.pipe_tree.specs.declared.tree.Func.{Func}
use Rattle.pipe_tree.specs.declared.tree.Accum.{Accum}
use Rattle.pipe_tree.specs.declared.tree.Item.{Item}
use Rattle.pipe_tree.specs.declared.tree.Item.TheVariants as items
use Rattle.pipe_tree.specs.declared.tree.Expr.{Expr}
use Rattle.pipe_tree.specs.declared.tree.Expr.TheVariants.{Number, Name, Read, Lookup', Unary', Binary', Ternary', Literal', Select', Stencil}

-- ---- the data

-- an expression
pub data Node : Type 0 where
  number : ℕ → Node
  variable : List ℕ → Node
  read : List ℕ → Index → Index → Node
  lookup : List ℕ → Node → Node
  unary : UnaryOp → Node → Node
  binary : BinaryOp → Node → Node → Node
  ternary : TernaryOp → Node → Node → Node → Node
  literal : LiteralOp → Node → ℕ → Node
  select : Node → Relation → Node → Node → Node → Node
  stencil : List ℕ → ℕ → List (List ℤ) → Node

-- a case of a function
pub record Branch : Type 0 where
  pub condition : List Test
  pub value : Node

pub record Function : Type 0 where
  pub name : List ℕ
  pub row : Variable
  pub column : Variable
  pub cases : List Branch
  pub otherwise : Option Node

pub record Accumulator : Type 0 where
  pub name : List ℕ
  pub bins : AffineSpan
  pub row : Variable
  pub column : Variable
  pub fold : ReductionOp
  pub value : Node
  pub bin : Node

-- an item
pub data Declaration : Type 0 where
  param : Param → Declaration
  image : Image → Declaration
  table : Table → Declaration
  function : Function → Declaration
  accumulator : Accumulator → Declaration
  output : Output → Declaration

-- ---- views of the items in memory

abbrev pub view : Expr → Node
view (Number n) = number n
view (Name x) = variable x
view (Read x i j) = read x i j
view (Lookup' x p a) = lookup x (view a)
view (Unary' op p a) = unary op (view a)
view (Binary' op p a q b) = binary op (view a) (view b)
view (Ternary' op p a q b r c) = ternary op (view a) (view b) (view c)
view (Literal' op p a n) = literal op (view a) n
view (Select' p a relation q b r c s d) = select (view a) relation (view b) (view c) (view d)
view (Stencil x d kernel) = stencil x d kernel

abbrev pub branch : Case → Branch
branch c = record { condition = c.condition; value = view c.value }

-- the cases in the order of the text
abbrev pub cases_of : Cases → List Case
cases_of cs = cs.cases.items

abbrev pub branches : List Case → List Branch
branches cs = map branch cs

abbrev pub function_of : Func → Function
function_of f =
    record { name = f.name; row = f.row; column = f.column; cases = branches (cases_of f.cases); otherwise = option_map view f.otherwise }

abbrev pub accumulator_of : Accum → Accumulator
accumulator_of a =
    record { name = a.name; bins = a.bins; row = a.row; column = a.column; fold = a.fold; value = view a.value; bin = view a.bin }

abbrev pub declaration : Item → Declaration
declaration (items.Param p) = param p
declaration (items.Image i) = image i
declaration (items.Table t) = table t
declaration (items.Func f) = function (function_of f)
declaration (items.Accum a) = accumulator (accumulator_of a)
declaration (items.Output o) = output o

abbrev pub declarations : List Item → List Declaration
declarations is = map declaration is
