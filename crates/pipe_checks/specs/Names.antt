-- The names that a program declares.
use Rattle.std.specs.Prelude.{ℕ, ◌+◌, Bool, true, false, Option, Some, None, List, [], ◌∷◌, ◌++◌, filter, position, slice_get}
use Rattle.std.specs.Str.{bytes_eq}
use Rattle.pipe_tree.specs.declared.tree.Names.{Names}
use Rattle.pipe_tree.specs.declared.tree.Names.TheVariants.{One, Three}
use Rattle.pipe_tree.specs.Tree.{Declaration, param, image, table, function, accumulator, output}
use Rattle.pipe_checks.specs.declared.symbol.SymbolKind.{SymbolKind}
use Rattle.pipe_checks.specs.declared.symbol.SymbolKind.TheVariants.{Param, Table, Plane, Func, Accum}
use Rattle.pipe_checks.specs.declared.symbol.Symbol.{Symbol}

-- the planes that item n declares
abbrev pub names_of : ℕ → Names → List Symbol
names_of n (One x) = record { name = x; kind = Plane; item = n } ∷ []
names_of n (Three x y z) =
    record { name = x; kind = Plane; item = n } ∷ record { name = y; kind = Plane; item = n } ∷ record { name = z; kind = Plane; item = n }
    ∷ []

-- the names that item n declares
abbrev pub item_names : ℕ → Declaration → List Symbol
item_names n (param p) = record { name = p.name; kind = Param; item = n } ∷ []
item_names n (image i) = names_of n i.names
item_names n (table t) = record { name = t.name; kind = Table; item = n } ∷ []
item_names n (function f) = record { name = f.name; kind = Func; item = n } ∷ []
item_names n (accumulator a) = record { name = a.name; kind = Accum; item = n } ∷ []
item_names n (output o) = []

-- the names that items declare, of which the first item has the number n
abbrev pub names_from : ℕ → List Declaration → List Symbol
names_from n [] = []
names_from n (d ∷ ds) = item_names n d ++ names_from (n + 1) ds

abbrev pub symbols_declared_by_items : List Declaration → List Symbol
symbols_declared_by_items ds = names_from 0 ds

abbrev pub is_param : SymbolKind → Bool
is_param Param = true
is_param Table = false
is_param Plane = false
is_param Func = false
is_param Accum = false

abbrev pub is_table : SymbolKind → Bool
is_table Param = false
is_table Table = true
is_table Plane = false
is_table Func = false
is_table Accum = false

-- a declared thing that has a number at each point, or for each bin
abbrev pub is_stage : SymbolKind → Bool
is_stage Param = false
is_stage Table = false
is_stage Plane = true
is_stage Func = true
is_stage Accum = true

-- the parameters of a program, its tables, and its stages: the number of each is its place here
abbrev pub params_of : List Declaration → List Symbol
params_of ds = filter (λ d. is_param d.kind) (symbols_declared_by_items ds)

abbrev pub tables_of : List Declaration → List Symbol
tables_of ds = filter (λ d. is_table d.kind) (symbols_declared_by_items ds)

abbrev pub stages_of : List Declaration → List Symbol
stages_of ds = filter (λ d. is_stage d.kind) (symbols_declared_by_items ds)

-- the number of the first of the names that equals this one
abbrev pub number_of : List Symbol → List ℕ → Option ℕ
number_of names x = position (λ d. bytes_eq d.name x) names

-- the first of the names that equals this one
abbrev pub place_of : List Symbol → Option ℕ → Option Symbol
place_of names None = None
place_of names (Some n) = slice_get names n

abbrev pub declared_at : List Symbol → List ℕ → Option Symbol
declared_at names x = place_of names (number_of names x)
