-- How many of what is counted in a text its tree has.
use Rattle.std.specs.Prelude.{ℕ, ◌+◌, ◌≤◌, List, Option, Some, None}
use Rattle.std.specs.Prelude.{sum_by, All}
use Rattle.pipe_tree.specs.declared.tree.Names.{Names}
use Rattle.pipe_tree.specs.declared.tree.Names.TheVariants.{One, Three}
use Rattle.pipe_tree.specs.Tree.{Node, number, variable, read, lookup, unary, binary, ternary, literal, select, stencil, Branch}
use Rattle.pipe_tree.specs.Tree.{Declaration, param, image, table, function, accumulator, output}

-- the weights of a node of an expression, a stage, a parameter, a table, a function and a case
pub record Weights : Type 0 where
  pub node : ℕ
  pub stage : ℕ
  pub param : ℕ
  pub table : ℕ
  pub function : ℕ
  pub case : ℕ

abbrev pub node_size : ℕ → Node → ℕ
node_size w (number n) = w
node_size w (variable x) = w
node_size w (read x i j) = w
node_size w (lookup x a) = w + node_size w a
node_size w (unary op a) = w + node_size w a
node_size w (binary op a b) = w + node_size w a + node_size w b
node_size w (ternary op a b c) = w + node_size w a + node_size w b + node_size w c
node_size w (literal op a n) = w + node_size w a
node_size w (select a r b c d) = w + node_size w a + node_size w b + node_size w c + node_size w d
node_size w (stencil x d kernel) = w

abbrev pub cases_size : Weights → List Branch → ℕ
cases_size w cases = sum_by (λ c. w.case + node_size w.node c.value) cases

abbrev pub optional_size : ℕ → Option Node → ℕ
optional_size w None = 0
optional_size w (Some a) = node_size w a

-- each plane of an image is a stage
abbrev pub names_size : ℕ → Names → ℕ
names_size w (One x) = w
names_size w (Three x y z) = w + w + w

abbrev pub item_size : Weights → Declaration → ℕ
item_size w (param p) = w.param
item_size w (image i) = names_size w.stage i.names
item_size w (table t) = w.table
item_size w (function f) = w.function + w.stage + cases_size w f.cases + optional_size w.node f.otherwise
item_size w (accumulator a) = w.stage + node_size w.node a.value + node_size w.node a.bin
item_size w (output o) = 0

abbrev pub size : Weights → List Declaration → ℕ
size w tree = sum_by (item_size w) tree

-- the weights that count one of these alone
abbrev pub nodes : Weights
nodes = record { node = 1; stage = 0; param = 0; table = 0; function = 0; case = 0 }

abbrev pub stages : Weights
stages = record { node = 0; stage = 1; param = 0; table = 0; function = 0; case = 0 }

abbrev pub params : Weights
params = record { node = 0; stage = 0; param = 1; table = 0; function = 0; case = 0 }

abbrev pub tables : Weights
tables = record { node = 0; stage = 0; param = 0; table = 1; function = 0; case = 0 }

abbrev pub cases : Weights
cases = record { node = 0; stage = 0; param = 0; table = 0; function = 0; case = 1 }

-- the limits of each tree that has a text
pub record KeepsLimits (tree : List Declaration) : Type 0 where
  pub few_nodes : size nodes tree ≤ 4096
  pub few_stages : size stages tree ≤ 64
  pub few_params : size params tree ≤ 64
  pub few_tables : size tables tree ≤ 16
  pub few_cases : All (λ item. item_size cases item ≤ 16) tree
