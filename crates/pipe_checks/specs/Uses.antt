-- The places of an item in the order of the text, each with what it requires, and the fault of a place that does not have it.
use Rattle.std.specs.Prelude.{ℕ, ◌%◌, ◌≡◌, ℤ, pos, negsuc, int_le, Bool, true, false, ◌&&◌, ◌==◌, nat_le, nat_lt, if◌then◌else◌}
use Rattle.std.specs.Prelude.{Option, Some, None, is_none, List, [], ◌∷◌, ◌++◌, length}
use Rattle.std.specs.List.{list_all}
use Rattle.std.specs.Str.{bytes_eq}
use Rattle.pipe_tree.specs.declared.tree.AffineTerm.{AffineTerm}
use Rattle.pipe_tree.specs.declared.tree.Index.{Index}
use Rattle.pipe_tree.specs.declared.tree.AffineSpan.{AffineSpan}
use Rattle.operators.specs.declared.operator.LiteralOp.{LiteralOp}
use Rattle.operators.specs.declared.operator.LiteralOp.TheVariants.{Div, Rem, Shl, Shr}
use Rattle.pipe_tree.specs.declared.tree.Test.{Test}
use Rattle.pipe_tree.specs.declared.tree.Test.TheVariants.{Compare, Remainder}
use Rattle.pipe_tree.specs.declared.tree.Names.{Names}
use Rattle.pipe_tree.specs.declared.tree.Names.TheVariants.{One, Three}
use Rattle.pipe_tree.specs.Tree.{Node, number, variable, read, lookup, unary, binary, ternary, literal, select, stencil, Branch}
use Rattle.pipe_tree.specs.Tree.{Function, Accumulator, Declaration, param, image, table, function, accumulator, output}
use Rattle.pipe_checks.specs.declared.symbol.SymbolKind.{SymbolKind}
use Rattle.pipe_checks.specs.declared.symbol.SymbolKind.TheVariants as kind
use Rattle.pipe_checks.specs.declared.symbol.Symbol.{Symbol}
use Rattle.pipe_checks.specs.declared.fault.Violation.{Violation}
use Rattle.pipe_checks.specs.declared.fault.Violation.TheVariants.{Unknown, Kind, BadKernel, BadLiteral}
use Rattle.pipe_checks.specs.declared.uses.NameRole.{NameRole}
use Rattle.pipe_checks.specs.declared.uses.NameRole.TheVariants as role
use Rattle.pipe_checks.specs.declared.uses.ExpectedNameRole.{ExpectedNameRole}
use Rattle.pipe_checks.specs.declared.uses.ExpectedNameRole.TheVariants as expected
use Rattle.pipe_checks.specs.declared.uses.ItemVariables.{ItemVariables}
use Rattle.pipe_checks.specs.Names.{declared_at}
use Rattle.pipe_checks.specs.Accesses.{width_of}

-- ---- places

-- a place of an item, and what it requires
pub data Place : Type 0 where
  -- a name of one of these roles
  name : (x : List ℕ) (roles : ExpectedNameRole) → Place
  -- a number in this range
  ranged : (n least most : ℕ) → Place
  -- the remainder of a test: a number below its modulus
  remainder : (n modulus : ℕ) → Place
  -- the addend of an index: a number from -4096 to 4096
  shift : (n : ℤ) → Place
  -- a kernel: a rectangle of odd sides up to 15
  kernel : (rows : List (List ℤ)) → Place

-- the greatest number of a text
abbrev pub greatest_number : ℕ
greatest_number = 2147483647

abbrev pub factor_places : Option (List ℕ) → List Place
factor_places None = []
factor_places (Some x) = name x expected.Param ∷ []

abbrev pub affine_places : List AffineTerm → List Place
affine_places [] = []
affine_places (t ∷ ts) = factor_places t.name ++ affine_places ts

abbrev pub span_places : AffineSpan → List Place
span_places s = affine_places s.first ++ affine_places s.last

-- `m * x + k` over d: the factor, the variable, the addend, the divisor
unfoldable pub index_places : Index → ExpectedNameRole → List Place
index_places i roles = ranged i.mul 1 16 ∷ name i.name roles ∷ shift i.add ∷ ranged i.div 1 16 ∷ []

-- the range of the number after an operator
abbrev pub least_literal : LiteralOp → ℕ
least_literal Div = 1
least_literal Rem = 1
least_literal Shl = 0
least_literal Shr = 0

abbrev pub greatest_literal : LiteralOp → ℕ
greatest_literal Div = greatest_number
greatest_literal Rem = greatest_number
greatest_literal Shl = 31
greatest_literal Shr = 31

abbrev pub read_places : List ℕ → Index → Index → List Place
read_places x i j = name x expected.Readable ∷ (index_places i expected.Row ++ index_places j expected.Column)

abbrev pub stencil_places : List ℕ → ℕ → List (List ℤ) → List Place
stencil_places x d k = name x expected.Readable ∷ ranged d 1 greatest_number ∷ kernel k ∷ []

abbrev pub expr_places : Node → List Place
expr_places (number n) = ranged n 0 greatest_number ∷ []
expr_places (variable x) = name x expected.Number ∷ []
expr_places (read x i j) = read_places x i j
expr_places (lookup x a) = name x expected.Table ∷ expr_places a
expr_places (unary op a) = expr_places a
expr_places (binary op a b) = expr_places a ++ expr_places b
expr_places (ternary op a b c) = expr_places a ++ (expr_places b ++ expr_places c)
expr_places (literal op a n) = expr_places a ++ ranged n (least_literal op) (greatest_literal op) ∷ []
expr_places (select a r b c d) = expr_places a ++ (expr_places b ++ (expr_places c ++ expr_places d))
expr_places (stencil x d k) = stencil_places x d k

unfoldable pub test_places : Test → List Place
test_places (Compare x relation bound) = name x expected.Variable ∷ affine_places bound
test_places (Remainder x m r) = name x expected.Variable ∷ ranged m 1 greatest_number ∷ remainder r m ∷ []

abbrev pub tests_places : List Test → List Place
tests_places [] = []
tests_places (t ∷ ts) = test_places t ++ tests_places ts

abbrev pub branch_places : Branch → List Place
branch_places b = tests_places b.condition ++ expr_places b.value

abbrev pub branches_places : List Branch → List Place
branches_places [] = []
branches_places (b ∷ bs) = branch_places b ++ branches_places bs

abbrev pub otherwise_places : Option Node → List Place
otherwise_places None = []
otherwise_places (Some a) = expr_places a

abbrev pub function_places : Function → List Place
function_places f = span_places f.row.span ++ (span_places f.column.span ++ (branches_places f.cases ++ otherwise_places f.otherwise))

abbrev pub accumulator_places : Accumulator → List Place
accumulator_places a =
    span_places a.bins ++ (span_places a.row.span ++ (span_places a.column.span ++ (expr_places a.value ++ expr_places a.bin)))

abbrev pub output_places : Names → List Place
output_places (One x) = name x expected.Func ∷ []
output_places (Three x y z) = name x expected.Func ∷ name y expected.Func ∷ name z expected.Func ∷ []

-- the places of an item, in the order of the text
abbrev pub places_of : Declaration → List Place
places_of (param p) = []
places_of (image i) = affine_places i.rows ++ affine_places i.columns
places_of (table t) = span_places t.span
places_of (function f) = function_places f
places_of (accumulator a) = accumulator_places a
places_of (output o) = output_places o.names ++ ranged o.max 1 65535 ∷ []

-- ---- names

abbrev pub is_variable_named : Option (List ℕ) → List ℕ → Bool
is_variable_named None x = false
is_variable_named (Some y) x = bytes_eq y x

abbrev pub role_of : SymbolKind → NameRole
role_of kind.Param = role.Param
role_of kind.Table = role.Table
role_of kind.Plane = role.Plane
role_of kind.Func = role.Func
role_of kind.Accum = role.Accum

abbrev pub declared_role : Option Symbol → Option NameRole
declared_role None = None
declared_role (Some d) = Some (role_of d.kind)

-- what a name denotes in an item: a variable of it, or what is declared by this name
abbrev pub role_at : List Symbol → ItemVariables → List ℕ → Option NameRole
role_at names locals x =
    if is_variable_named locals.row x then Some role.Row
    else (if is_variable_named locals.column x then Some role.Column else declared_role (declared_at names x))

-- which names are of these roles
abbrev pub allows : ExpectedNameRole → NameRole → Bool
allows expected.Param role.Param = true
allows expected.Table role.Table = true
allows expected.Readable role.Plane = true
allows expected.Readable role.Func = true
allows expected.Func role.Func = true
allows expected.Number role.Row = true
allows expected.Number role.Column = true
allows expected.Number role.Param = true
allows expected.Row role.Row = true
allows expected.Column role.Column = true
allows expected.Variable role.Row = true
allows expected.Variable role.Column = true
allows w s = false

-- ---- the fault of a place, if any

abbrev pub wrong_name : ExpectedNameRole → Option NameRole → Option Violation
wrong_name roles None = Some Unknown
wrong_name roles (Some r) = if allows roles r then None else Some Kind

abbrev pub wrong_range : ℕ → ℕ → ℕ → Option Violation
wrong_range n least most = if nat_le least n && nat_le n most then None else Some BadLiteral

abbrev pub wrong_remainder : ℕ → ℕ → Option Violation
wrong_remainder n modulus = if nat_lt n modulus then None else Some BadLiteral

abbrev pub wrong_shift : ℤ → Option Violation
wrong_shift n = if int_le (negsuc 4095) n && int_le n (pos 4096) then None else Some BadLiteral

-- a side of a kernel: odd, at most 15
abbrev pub is_odd_kernel_side_within_limit : ℕ → Bool
is_odd_kernel_side_within_limit n = (n % 2 == 1) && nat_le n 15

abbrev pub wrong_kernel : List (List ℤ) → Option Violation
wrong_kernel rows =
    if is_odd_kernel_side_within_limit (length rows) && (is_odd_kernel_side_within_limit (width_of rows) && list_all (λ row. length row == width_of rows) rows) then None
    else Some BadKernel

abbrev pub wrong_at : List Symbol → ItemVariables → Place → Option Violation
wrong_at names locals (name x roles) = wrong_name roles (role_at names locals x)
wrong_at names locals (ranged n least most) = wrong_range n least most
wrong_at names locals (remainder n modulus) = wrong_remainder n modulus
wrong_at names locals (shift n) = wrong_shift n
wrong_at names locals (kernel rows) = wrong_kernel rows

-- a place is served if it has what it requires
abbrev pub is_served : List Symbol → ItemVariables → Place → Bool
is_served names locals place = is_none (wrong_at names locals place)

abbrev pub are_served : List Symbol → ItemVariables → List Place → Bool
are_served names locals places = list_all (is_served names locals) places

-- the first of the places that is not served, and its fault
pub record IsFirstUnserved (names : List Symbol) (locals : ItemVariables) (places : List Place) (wrong : Violation) : Type 0 where
  pub before : List Place
  pub place : Place
  pub after : List Place
  pub parts : places ≡ before ++ place ∷ after
  pub served : are_served names locals before ≡ true
  pub is : wrong_at names locals place ≡ Some wrong
