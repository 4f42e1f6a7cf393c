-- What contracts see of a checked program.
use Rattle.std.specs.Prelude.{ℕ, List}
use Rattle.pipe_tree.specs.declared.tree.Tree.{Tree}
use Rattle.pipe_checks.specs.declared.symbol.Symbol.{Symbol}
use Rattle.pipe_checks.specs.StageLinks.{StageLinks}

-- a program, its stages, parameters and tables in the order of the text, and by the numbers of stages what each reads, and its
-- rank
pub record CheckedProgram : Type 0 where
  pub tree : Tree
  pub stages : List Symbol
  pub params : List Symbol
  pub tables : List Symbol
  pub graph : List StageLinks
  pub ranks : List ℕ

-- a program with its lists
abbrev pub with_lists : Tree → List Symbol → List Symbol → List Symbol → List StageLinks → List ℕ → CheckedProgram
with_lists tree stages params tables graph ranks =
    record { tree = tree; stages = stages; params = params; tables = tables; graph = graph; ranks = ranks }
