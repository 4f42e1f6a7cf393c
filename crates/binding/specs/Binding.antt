-- What a program is at the values of its parameters: names become numbers of stages, extents become numbers.
use Rattle.std.specs.Prelude.{ℕ, ◌==◌, ℤ, pos, ◌+ℤ◌, ◌-ℤ◌, ◌≡◌, Bool, false, not, ◌&&◌, if◌then◌else◌, Option, Some, None, unwrap_or}
use Rattle.std.specs.Prelude.{List, [], ◌∷◌, map, filter, length, slice_get, slice_index, FitsSigned, All, IsTrue}
use Rattle.pipe_tokens.specs.Naming.{is_identifier_of_name_length}
use Rattle.std.specs.Int.{w32}
use Rattle.std.specs.List.{flat_map, find, AllZip}
use Rattle.std.specs.Option.{option_map, option_map_or}
use Rattle.std.specs.Str.{bytes_eq}
use Rattle.domains.specs.Span.{Ends}
use Rattle.domains.specs.Sides.{Sides}
use Rattle.domains.specs.declared.area.Area.{Area}
use Rattle.netpbm.specs.Image.{Image as Picture}
use Rattle.pipe_tree.specs.declared.tree.AffineTerm.{AffineTerm}
use Rattle.pipe_tree.specs.declared.tree.Test.{Test as TestText}
use Rattle.pipe_tree.specs.declared.tree.Test.TheVariants.{Compare, Remainder}
use Rattle.pipe_tree.specs.declared.tree.AffineSpan.{AffineSpan}
use Rattle.pipe_tree.specs.declared.tree.Variable.{Variable}
use Rattle.pipe_tree.specs.declared.tree.Names.{Names}
use Rattle.pipe_tree.specs.declared.tree.Names.TheVariants.{One, Three}
use Rattle.pipe_tree.specs.declared.tree.Image.{Image}
use Rattle.pipe_tree.specs.declared.tree.Table.{Table as TableText}
use Rattle.pipe_tree.specs.Tree as tree
use Rattle.pipe_tree.specs.Tree.{Node, Branch, Function, Accumulator, Declaration}
use Rattle.pipe_checks.specs.declared.symbol.Symbol.{Symbol}
use Rattle.pipe_bounds.specs.declared.params.Setting.{Setting}
use Rattle.pipe_bounds.specs.InBounds.{scale_of}
use Rattle.pipe_bounds.specs.Settings.{affine_value, param_value}
use Rattle.pipe_checks.specs.Names.{params_of, stages_of, number_of}
use Rattle.pipe_checks.specs.Checking.{IsNamed}
use Rattle.pipe_bounds.specs.Within.{AllSet}
use Rattle.pipe_checks.specs.Graph.{IsRanking}
use Rattle.pipe_checks.specs.Accesses.{graph_of, is_plane}
use Rattle.job.specs.Formula.{Axis, row, column, Formula, number, coordinate, read, lookup, unary, binary, ternary, literal, select}
use Rattle.job.specs.Formula.{stencil, Test, compare, remainder}
use Rattle.job.specs.Pipeline.{JobCase, plane, function, accumulator, Stage, Output, Parameter, Pipeline}
use Rattle.job.specs.Boxes.{box_of}
use Rattle.tables.specs.declared.table.Table.{Table}
use Rattle.tables.specs.Entries.{Entries, span_from}

-- ---- parameters without values

-- an extent that is this parameter alone
abbrev pub is_exactly : List AffineTerm → List ℕ → Bool
is_exactly [] x = false
is_exactly (t ∷ []) x = not t.negative && (t.factor == 1) && option_map_or (λ y. bytes_eq y x) t.name false
is_exactly (t ∷ u ∷ ts) x = false

-- the side of the picture that is this parameter: its rows first, then its columns
abbrev pub side_of : Image → Picture → List ℕ → Option ℤ
side_of i picture x =
    if is_exactly i.rows x then Some (pos picture.rows)
    else (if is_exactly i.columns x then Some (pos picture.cols) else None)

abbrev pub settled : Image → Picture → List ℕ → Option ℤ → Option ℤ
settled i picture x None = side_of i picture x
settled i picture x (Some v) = Some v

-- the parameters, where those without a value are taken from the picture
abbrev pub settings_for : Image → Picture → List Setting → List Setting
settings_for i picture settings = map (λ s. record { name = s.name; value = settled i picture s.name s.value }) settings

-- each value is a number of 32 bits
abbrev pub AreSmall : List Setting → Type 0
AreSmall settings = (k : ℕ) (s : Setting) (v : ℤ) → slice_get settings k ≡ Some s → s.value ≡ Some v → FitsSigned w32 v

-- a table has a name of the language, and each of its entries is a number of 32 bits
pub record IsSmallTable (t : Table) : Type 0 where
  pub named : IsTrue (is_identifier_of_name_length t.name)
  pub fit : All (FitsSigned w32) t.values

abbrev pub AreSmallTables : List Table → Type 0
AreSmallTables tables = All IsSmallTable tables

-- ---- what names mean

-- in a program: its stages, their ranks, the values of its parameters, and the supplied tables
pub record Program : Type 0 where
  pub stages : List Symbol
  pub ranks : List ℕ
  pub settings : List Setting
  pub tables : List Table

abbrev pub stage_number : Program → List ℕ → ℕ
stage_number p x = unwrap_or (number_of p.stages x) 0

abbrev pub rank_named : Program → List ℕ → ℕ
rank_named p x = slice_index p.ranks (stage_number p x)

-- a plane's number is its place among the planes
abbrev pub plane_number : Program → List ℕ → ℕ
plane_number p x = unwrap_or (number_of (filter (λ d. is_plane d.kind) p.stages) x) 0

-- the entries of a table, one for each index from its first on
abbrev pub entries_of : Option Table → Entries
entries_of None = record { span = span_from (pos 0) 0; values = [] }
entries_of (Some t) = record { span = span_from t.lo (length t.values); values = t.values }

-- the first supplied table of this name
abbrev pub table_named : List Table → List ℕ → Option Table
table_named tables x = find (λ t. bytes_eq t.name x) tables

abbrev pub entries_named : Program → List ℕ → Entries
entries_named p x = entries_of (table_named p.tables x)

-- in an item, the names of its two variables
pub record Variables : Type 0 where
  pub row_name : List ℕ
  pub column_name : List ℕ

abbrev pub variables_of : Variable → Variable → Variables
variables_of x y = record { row_name = x.name; column_name = y.name }

abbrev pub axis_of : Variables → List ℕ → Axis
axis_of own x = if bytes_eq x own.row_name then row else column

-- a variable, or else a parameter
abbrev pub name_formula : Program → Variables → List ℕ → Formula
name_formula p own x =
    if bytes_eq x own.row_name then coordinate row
    else (if bytes_eq x own.column_name then coordinate column else number (param_value p.settings x))

-- ---- items

abbrev pub formula_of : Program → Variables → Node → Formula
formula_of p own (tree.number n) = number (pos n)
formula_of p own (tree.variable x) = name_formula p own x
formula_of p own (tree.read x i j) = read (stage_number p x) (scale_of i) (scale_of j)
formula_of p own (tree.lookup x a) = lookup (entries_named p x) (formula_of p own a)
formula_of p own (tree.unary op a) = unary op (formula_of p own a)
formula_of p own (tree.binary op a b) = binary op (formula_of p own a) (formula_of p own b)
formula_of p own (tree.ternary op a b c) = ternary op (formula_of p own a) (formula_of p own b) (formula_of p own c)
formula_of p own (tree.literal op a n) = literal op (formula_of p own a) n
formula_of p own (tree.select a relation b first second) =
    select (formula_of p own a) relation (formula_of p own b) (formula_of p own first) (formula_of p own second)
formula_of p own (tree.stencil x divisor kernel) = stencil (stage_number p x) divisor kernel

abbrev pub test_of : Program → Variables → TestText → Test
test_of p own (Compare x relation bound) = compare (axis_of own x) relation (affine_value p.settings bound)
test_of p own (Remainder x modulus rest) = remainder (axis_of own x) modulus rest

abbrev pub case_of : Program → Variables → Area → Branch → JobCase
case_of p own domain b =
    let tests = map (test_of p own) b.condition in
    record { box = box_of domain tests; tests = tests; formula = formula_of p own b.value }

abbrev pub ends_of : Program → AffineSpan → Ends
ends_of p s = record { lo = affine_value p.settings s.first; hi = affine_value p.settings s.last }

abbrev pub area_of : Program → Variable → Variable → Area
area_of p x y = record { rows = ends_of p x.span; cols = ends_of p y.span }

-- as many numbers as the extent says, from 0 on
abbrev pub extent_of : Program → List AffineTerm → Ends
extent_of p terms = record { lo = pos 0; hi = affine_value p.settings terms -ℤ pos 1 }

-- as many rows and columns as the extents say, from 0 on
abbrev pub plane_area : Program → Image → Area
plane_area p i = record { rows = extent_of p i.rows; cols = extent_of p i.columns }

abbrev pub plane_stage : Program → Image → List ℕ → Stage
plane_stage p i x = record { name = x; rank = rank_named p x; domain = plane_area p i; body = plane (plane_number p x) }

abbrev pub function_stage : Program → Function → Stage
function_stage p f =
    let own : Variables = variables_of f.row f.column in
    let domain : Area = area_of p f.row f.column in
    record {
      name = f.name;
      rank = rank_named p f.name;
      domain = domain;
      body = function (map (case_of p own domain) f.cases) (option_map (formula_of p own) f.otherwise);
    }

abbrev pub accumulator_stage : Program → Accumulator → Stage
accumulator_stage p a =
    let own : Variables = variables_of a.row a.column in
    record {
      name = a.name;
      rank = rank_named p a.name;
      domain = area_of p a.row a.column;
      body = accumulator a.fold (ends_of p a.bins) (formula_of p own a.value) (formula_of p own a.bin);
    }

abbrev pub names_in : Names → List (List ℕ)
names_in (One x) = x ∷ []
names_in (Three x y z) = x ∷ y ∷ z ∷ []

-- the stages that an item declares
abbrev pub item_stages : Program → Declaration → List Stage
item_stages p (tree.param x) = []
item_stages p (tree.image i) = map (plane_stage p i) (names_in i.names)
item_stages p (tree.table t) = []
item_stages p (tree.function f) = function_stage p f ∷ []
item_stages p (tree.accumulator a) = accumulator_stage p a ∷ []
item_stages p (tree.output o) = []

abbrev pub item_outputs : Program → Declaration → List Output
item_outputs p (tree.param x) = []
item_outputs p (tree.image i) = []
item_outputs p (tree.table t) = []
item_outputs p (tree.function f) = []
item_outputs p (tree.accumulator a) = []
item_outputs p (tree.output o) = record { stages = map (stage_number p) (names_in o.names); max = o.max } ∷ []

abbrev pub parameter_of : Setting → Parameter
parameter_of s = record { name = s.name; value = unwrap_or s.value (pos 0) }

-- ---- the whole

abbrev pub job_of : Program → List Declaration → Picture → Sides → Pipeline
job_of p items picture sides =
    record {
      stages = flat_map (item_stages p) items;
      output = slice_get (flat_map (item_outputs p) items) 0;
      params = map parameter_of p.settings;
      tables = p.tables;
      picture = picture;
      sides = sides;
    }

-- the image item, of which a program has one
abbrev pub item_images : Declaration → List Image
item_images (tree.param x) = []
item_images (tree.image i) = i ∷ []
item_images (tree.table t) = []
item_images (tree.function f) = []
item_images (tree.accumulator a) = []
item_images (tree.output o) = []

-- the table items, in the order of the text
abbrev pub item_tables : Declaration → List TableText
item_tables (tree.param x) = []
item_tables (tree.image i) = []
item_tables (tree.table t) = t ∷ []
item_tables (tree.function f) = []
item_tables (tree.accumulator a) = []
item_tables (tree.output o) = []

-- the supplied table has the name of the declared one, and an entry for each index of its span
pub record IsTableFit (settings : List Setting) (declared : TableText) (given : Table) : Type 0 where
  pub name : given.name ≡ declared.name
  pub first : affine_value settings declared.span.first ≡ given.lo
  pub last : affine_value settings declared.span.last ≡ (given.lo +ℤ pos (length given.values)) -ℤ pos 1

-- each declared table is supplied, in the order of the text, and no other is
abbrev pub TablesFit : List Setting → List TableText → List Table → Type 0
TablesFit settings declared given = AllZip (IsTableFit settings) declared given

-- The job is what the items specify, where each name is resolved to what its place requires. `given` lists all parameters in the
-- order of the text; those without values are taken from the picture. The tables are the supplied ones. All parameters then have
-- values, and each declared table its entries.
pub record IsJobOf (items : List Declaration) (given : List Setting) (tables : List Table) (picture : Picture) (sides : Sides)
    (job : Pipeline) : Type 0 where
  pub named : IsNamed items
  pub params : map (λ s. s.name) given ≡ map (λ d. d.name) (params_of items)
  pub image : Image
  pub declared : flat_map item_images items ≡ image ∷ []
  pub set : AllSet (settings_for image picture given)
  pub fit : TablesFit (settings_for image picture given) (flat_map item_tables items) tables
  pub ranks : List ℕ
  pub ranking : IsRanking (graph_of items) ranks
  pub is : job
      ≡ job_of (record { stages = stages_of items; ranks = ranks; settings = settings_for image picture given; tables = tables }) items
      picture sides
