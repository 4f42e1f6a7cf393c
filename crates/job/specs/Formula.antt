-- Formulas over the points of an area. A stage is named by its number, a variable by its axis, and a parameter by its value. A
-- table is included with its entries.
use Rattle.std.specs.Prelude.{ℕ, ℤ, List}
use Rattle.domains.specs.Index.{Scale}
use Rattle.operators.specs.declared.operator.UnaryOp.{UnaryOp}
use Rattle.operators.specs.declared.operator.BinaryOp.{BinaryOp}
use Rattle.operators.specs.declared.operator.TernaryOp.{TernaryOp}
use Rattle.operators.specs.declared.operator.LiteralOp.{LiteralOp}
use Rattle.operators.specs.declared.operator.Relation.{Relation}
use Rattle.tables.specs.Entries.{Entries}
pub use Rattle.operators.specs.Tests.{Axis, row, column, Test, compare, remainder}

-- a number at each point
pub data Formula : Type 0 where
  number : ℤ → Formula
  coordinate : Axis → Formula
  read : ℕ → Scale → Scale → Formula
  unary : UnaryOp → Formula → Formula
  binary : BinaryOp → Formula → Formula → Formula
  ternary : TernaryOp → Formula → Formula → Formula → Formula
  literal : LiteralOp → Formula → ℕ → Formula
  lookup : Entries → Formula → Formula
  select : Formula → Relation → Formula → Formula → Formula → Formula
  stencil : ℕ → ℕ → List (List ℤ) → Formula
