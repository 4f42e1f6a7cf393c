-- What `check` finds in a program.
use Rattle.std.specs.Prelude.{ℕ, ◌<◌, ◌≡◌, ◌⊎◌, Bool, true, false, IsTrue, Option, Some, None, is_some, List, take, slice_get}
use Rattle.std.specs.List.{list_any}
use Rattle.pipe_tree.specs.declared.tree.Tree.{Tree}
use Rattle.pipe_tree.specs.Tree.{Declaration, param, image, table, function, accumulator, output}
use Rattle.pipe_tree.specs.Content.{content}
use Rattle.pipe_checks.specs.declared.symbol.Symbol.{Symbol}
use Rattle.pipe_checks.specs.declared.fault.Violation.{Violation}
use Rattle.pipe_checks.specs.declared.fault.Violation.TheVariants as violation
use Rattle.pipe_checks.specs.declared.fault.CheckFault.{CheckFault}
use Rattle.pipe_checks.specs.declared.fault.CheckFault.TheVariants.{Unknown, Twice, Kind, BadKernel, BadLiteral, NoResult, Cycle, Memory}
use Rattle.pipe_checks.specs.declared.checked.Checked.{Checked}
use Rattle.pipe_checks.specs.StageLinks.{StageLinks}
use Rattle.pipe_checks.specs.Graph.{IsRanking, IsShortestCycle}
use Rattle.pipe_checks.specs.Names.{symbols_declared_by_items, params_of, tables_of, stages_of, number_of}
use Rattle.pipe_checks.specs.Accesses.{graph_of}
use Rattle.pipe_checks.specs.Twice.{item_variables, has_variable_with_name_used_twice}
use Rattle.pipe_checks.specs.Uses.{places_of, are_served, IsFirstUnserved}

-- ---- names that denote two things

-- item n declares a name that was declared before
pub record DeclaresAgain (names : List Symbol) (n : ℕ) : Type 0 where
  pub place : ℕ
  pub again : Symbol
  pub there : slice_get names place ≡ Some again
  pub item : again.item ≡ n
  pub before : IsTrue (is_some (number_of (take place names) again.name))

abbrev pub IsTwice : List Symbol → ℕ → Declaration → Type 0
IsTwice names n d = DeclaresAgain names n ⊎ IsTrue (has_variable_with_name_used_twice names (item_variables d))

abbrev pub NoneTwice : List Symbol → List Declaration → Type 0
NoneTwice names ds = (k : ℕ) (d : Declaration) → slice_get ds k ≡ Some d → ¬ (IsTwice names k d)

-- item n is the first with a name that denotes two things
pub record IsFirstTwice (names : List Symbol) (ds : List Declaration) (n : ℕ) : Type 0 where
  pub item : Declaration
  pub there : slice_get ds n ≡ Some item
  pub twice : IsTwice names n item
  pub first : (k : ℕ) (d : Declaration) → k < n → slice_get ds k ≡ Some d → ¬ (IsTwice names k d)

-- ---- places that do not have what they require

-- each place of the item has what it requires
abbrev pub is_good : List Symbol → Declaration → Bool
is_good names d = are_served names (item_variables d) (places_of d)

abbrev pub AllGood : List Symbol → List Declaration → Type 0
AllGood names ds = (k : ℕ) (d : Declaration) → slice_get ds k ≡ Some d → is_good names d ≡ true

-- item n is the first with a place that is not served, and this is the fault of its first such place
pub record IsFirstWrong (names : List Symbol) (ds : List Declaration) (wrong : Violation) (n : ℕ) : Type 0 where
  pub item : Declaration
  pub there : slice_get ds n ≡ Some item
  pub is : IsFirstUnserved names (item_variables item) (places_of item) wrong
  pub first : (k : ℕ) (d : Declaration) → k < n → slice_get ds k ≡ Some d → is_good names d ≡ true

-- ---- the whole program

abbrev pub is_result : Declaration → Bool
is_result (param p) = false
is_result (image i) = false
is_result (table t) = false
is_result (function f) = false
is_result (accumulator a) = true
is_result (output o) = true

-- each name denotes what its place requires
pub record IsNamed (ds : List Declaration) : Type 0 where
  pub once : NoneTwice (symbols_declared_by_items ds) ds
  pub good : AllGood (symbols_declared_by_items ds) ds

-- the first fault of a program, except for memory
abbrev pub IsFault : List Declaration → CheckFault → Type 0
IsFault ds (Twice n) = IsFirstTwice (symbols_declared_by_items ds) ds n
IsFault ds (Unknown n) = NoneTwice (symbols_declared_by_items ds) ds × IsFirstWrong (symbols_declared_by_items ds) ds violation.Unknown n
IsFault ds (Kind n) = NoneTwice (symbols_declared_by_items ds) ds × IsFirstWrong (symbols_declared_by_items ds) ds violation.Kind n
IsFault ds (BadKernel n) = NoneTwice (symbols_declared_by_items ds) ds × IsFirstWrong (symbols_declared_by_items ds) ds violation.BadKernel n
IsFault ds (BadLiteral n) = NoneTwice (symbols_declared_by_items ds) ds × IsFirstWrong (symbols_declared_by_items ds) ds violation.BadLiteral n
IsFault ds NoResult = IsNamed ds × (list_any is_result ds ≡ false)
IsFault ds (Cycle c) = IsNamed ds × (list_any is_result ds ≡ true) × IsShortestCycle (graph_of ds) c
IsFault ds Memory = Unit {0}

-- what a stage of the graph reads
abbrev pub reads_at : Option StageLinks → Option (List ℕ)
reads_at None = None
reads_at (Some l) = Some l.reads

-- what `check` stores of a program
abbrev pub tree_in : Checked → Tree
tree_in c = c.tree

abbrev pub stages_in : Checked → List Symbol
stages_in c = c.stages

abbrev pub params_in : Checked → List Symbol
params_in c = c.params

abbrev pub tables_in : Checked → List Symbol
tables_in c = c.tables

abbrev pub graph_in : Checked → List StageLinks
graph_in c = c.graph

abbrev pub ranks_in : Checked → List ℕ
ranks_in c = c.ranks

-- the names, ranks and reads of a well-formed program
pub record IsCheckedOf (tree : Tree) (c : Checked) : Type 0 where
  pub same : tree_in c ≡ tree
  pub named : IsNamed (content tree)
  pub result : list_any is_result (content tree) ≡ true
  pub stages : stages_in c ≡ stages_of (content tree)
  pub params : params_in c ≡ params_of (content tree)
  pub tables : tables_in c ≡ tables_of (content tree)
  pub reads : graph_in c ≡ graph_of (content tree)
  pub ranks : IsRanking (graph_of (content tree)) (ranks_in c)
