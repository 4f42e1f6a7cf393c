-- Names that denote two things.
use Rattle.std.specs.Prelude.{ℕ, Bool, false, ◌||◌, Option, Some, None, is_some, List}
use Rattle.std.specs.Str.{bytes_eq}
use Rattle.pipe_tree.specs.Tree.{Declaration, param, image, table, function, accumulator, output}
use Rattle.pipe_checks.specs.declared.symbol.Symbol.{Symbol}
use Rattle.pipe_checks.specs.declared.uses.ItemVariables.{ItemVariables}
use Rattle.pipe_checks.specs.Names.{number_of}

-- the variables of an item
abbrev pub item_variables : Declaration → ItemVariables
item_variables (param p) = record { row = None; column = None }
item_variables (image i) = record { row = None; column = None }
item_variables (table t) = record { row = None; column = None }
item_variables (function f) = record { row = Some f.row.name; column = Some f.column.name }
item_variables (accumulator a) = record { row = Some a.row.name; column = Some a.column.name }
item_variables (output o) = record { row = None; column = None }

abbrev pub is_variable_with_declared_name : List Symbol → Option (List ℕ) → Bool
is_variable_with_declared_name names None = false
is_variable_with_declared_name names (Some x) = is_some (number_of names x)

abbrev pub are_same_variables : Option (List ℕ) → Option (List ℕ) → Bool
are_same_variables (Some x) (Some y) = bytes_eq x y
are_same_variables x y = false

-- a variable equals the other variable of its item or a declared name
abbrev pub has_variable_with_name_used_twice : List Symbol → ItemVariables → Bool
has_variable_with_name_used_twice names locals = are_same_variables locals.row locals.column || is_variable_with_declared_name names locals.row || is_variable_with_declared_name names locals.column
