-- The grammar of programs. A rule defines which tagged tokens denote which value.
use Rattle.std.specs.Prelude.{◌≡◌, ℕ, zero, suc, ℤ, pos, neg_ℤ, Bool, true, false, ◌⊎◌, List, [], ◌∷◌, ◌++◌, Option, Some, None}
use Rattle.std.specs.List.{list_any}
use Rattle.pipe_tokens.specs.declared.token.Token.{Token}
use Rattle.pipe_tokens.specs.declared.token.Token.TheVariants as token
use Rattle.pipe_tokens.specs.declared.token.Punct.{Punct}
use Rattle.pipe_tokens.specs.declared.token.Punct.TheVariants.{OpenRound, CloseRound, OpenSquare, CloseSquare, OpenCurly}
use Rattle.pipe_tokens.specs.declared.token.Punct.TheVariants.{CloseCurly, Comma, Semicolon, Colon}
use Rattle.pipe_tokens.specs.declared.token.Punct.TheVariants.{Minus, Star, Slash, Percent, Equals, DotDot}
use Rattle.pipe_tokens.specs.declared.token.Keyword.{Keyword}
use Rattle.pipe_tokens.specs.declared.token.Keyword.TheVariants as words
use Rattle.pipe_tree.specs.declared.limits.Role.{Role}
use Rattle.pipe_tree.specs.declared.limits.Role.TheVariants as roles
use Rattle.pipe_tree.specs.declared.tree.AffineSpan.{AffineSpan}
use Rattle.operators.specs.declared.operator.UnaryOp.TheVariants.{Neg}
use Rattle.operators.specs.declared.operator.BinaryOp.{BinaryOp}
use Rattle.operators.specs.declared.operator.BinaryOp.TheVariants.{Add, Sub, Mul}
use Rattle.operators.specs.declared.operator.ReductionOp.{ReductionOp}
use Rattle.pipe_tree.specs.declared.tree.Image.{Image}
use Rattle.pipe_tree.specs.declared.tree.Index.{Index}
use Rattle.pipe_tree.specs.declared.tree.Names.{Names}
use Rattle.pipe_tree.specs.declared.tree.Names.TheVariants.{One, Three}
use Rattle.pipe_tree.specs.declared.tree.Output.{Output}
use Rattle.pipe_tree.specs.declared.tree.Param.{Param}
use Rattle.operators.specs.declared.operator.Relation.{Relation}
use Rattle.pipe_tree.specs.declared.tree.Table.{Table}
use Rattle.pipe_tree.specs.declared.tree.AffineTerm.{AffineTerm}
use Rattle.pipe_tree.specs.declared.tree.Test.{Test}
use Rattle.pipe_tree.specs.declared.tree.Test.TheVariants.{Compare, Remainder}
use Rattle.pipe_tree.specs.declared.tree.Variable.{Variable}
use Rattle.pipe_tree.specs.declared.ahead.CallOp.{CallOp}
use Rattle.pipe_tree.specs.declared.ahead.CallOp.TheVariants as calls
use Rattle.pipe_tree.specs.declared.ahead.ProductOp.{ProductOp}
use Rattle.pipe_tree.specs.declared.ahead.ProductOp.TheVariants as factors
use Rattle.pipe_tree.specs.Limits.{Tagged}
use Rattle.pipe_tree.specs.Operators.{name_at, sign_at, factor_at, call_at, relation_at, fold_at}
use Rattle.pipe_tree.specs.Tree.{Node, number, variable, read, lookup, unary, binary, ternary, literal, select, stencil, Branch}
use Rattle.pipe_tree.specs.Tree.{Function, Accumulator, Declaration, param, image, table, function, accumulator, output}

abbrev pub Rule : Type 0 → Type 1
Rule X = List Tagged → X → Type 0

-- ---- how rules are put together

-- one rule after another, which may use the first one's value
pub record Then {X Y : Type 0} (R : Rule X) (Q : X → Rule Y) (text : List Tagged) (y : Y) : Type 0 where
  pub front : List Tagged
  pub back : List Tagged
  pub value : X
  pub parts : text ≡ front ++ back
  pub first : R front value
  pub second : Q value back y

infixl 10 ◌>>=◌
abbrev pub ◌>>=◌ : {X Y : Type 0} → Rule X → (X → Rule Y) → Rule Y
R >>= Q = Then R Q

-- no token, and a value
pub record Gives {X : Type 0} (x : X) (text : List Tagged) (y : X) : Type 0 where
  pub empty : text ≡ []
  pub value : y ≡ x

-- one token, and a value
pub record Takes {X : Type 0} (t : Token) (role : Role) (x : X) (text : List Tagged) (y : X) : Type 0 where
  pub text_is : text ≡ record { token = t; role = role } ∷ []
  pub value : y ≡ x

-- one token of a kind, and its meaning
pub record Means {X : Type 0} (meaning : Option Token → Option X) (role : Role) (text : List Tagged) (x : X) : Type 0 where
  pub token : Token
  pub text_is : text ≡ record { token = token; role = role } ∷ []
  pub means : meaning (Some token) ≡ Some x

infixl 5 ◌or◌
abbrev pub ◌or◌ : {X : Type 0} → Rule X → Rule X → Rule X
(R or Q) text x = R text x ⊎ Q text x

pub record Some_of {X Y : Type 0} (R : Y → Rule X) (text : List Tagged) (x : X) : Type 0 where
  pub which : Y
  pub it : R which text x

-- a rule that is repeated any number of times
abbrev pub times : {A : Type 0} → (A → Rule A) → ℕ → A → Rule A
times turn zero a = Gives a
times turn (suc n) a = turn a >>= times turn n

abbrev pub many : {A : Type 0} → (A → Rule A) → A → Rule A
many turn a = Some_of (λ n. times turn n a)

-- one or more, with a separator between each two
abbrev pub next_behind : {X : Type 0} → Rule (Unit {0}) → Rule X → List X → Rule (List X)
next_behind separator one xs = do
  _ ← separator
  x ← one
  Gives (xs ++ x ∷ [])

abbrev pub separated : {X : Type 0} → Rule (Unit {0}) → Rule X → Rule (List X)
separated separator one = do
  first ← one
  many (next_behind separator one) (first ∷ [])

-- ---- tokens

abbrev pub mark : Punct → Role → Rule (Unit {0})
mark m role = Takes (token.Punct m) role tt

abbrev pub word : Keyword → Role → Rule (Unit {0})
word w role = Takes (token.Keyword w) role tt

abbrev pub name : Role → Rule (List ℕ)
name role = Means name_at role

abbrev pub sign : Role → Rule Bool
sign role = Means sign_at role

abbrev pub factor : Rule ProductOp
factor = Means factor_at roles.Node

abbrev pub call : Rule CallOp
call = Means call_at roles.Node

abbrev pub relation : Rule Relation
relation = Means relation_at roles.Plain

abbrev pub fold : Rule ReductionOp
fold = Means fold_at roles.Plain

-- A number that is too big is allowed where a number is, but it exceeds a limit.
abbrev pub int : Role → Rule ℕ
int role = Some_of (λ n. Takes (token.Int n) role n) or Takes token.TooBig role 0

-- ---- affine sums, spans and variables

abbrev pub minus : Rule Bool
minus = (do
  _ ← mark Minus roles.Plain
  Gives true)
    or Gives false

-- what may follow a number
abbrev pub factor_end : ℕ → Rule (ℕ × Option (List ℕ))
factor_end n = (do
  _ ← mark Star roles.Plain
  x ← name roles.Plain
  Gives (n, Some x))
    or Gives (n, None)

-- a factor, and the name that it is multiplied by
abbrev pub scaled_name : Rule (ℕ × Option (List ℕ))
scaled_name = (do
  n ← int roles.Plain
  factor_end n)
    or (do
      x ← name roles.Plain
      Gives (1, Some x))

-- one more term
abbrev pub term : Bool → List AffineTerm → Rule (List AffineTerm)
term negative terms = do
  f ← scaled_name
  Gives (terms ++ record { negative = negative; factor = f.0; name = f.1 } ∷ [])

abbrev pub next_term : List AffineTerm → Rule (List AffineTerm)
next_term terms = do
  negative ← sign roles.Plain
  term negative terms

unfoldable pub affine : Rule (List AffineTerm)
affine = do
  negative ← minus
  terms ← term negative []
  many next_term terms

unfoldable pub span : Rule AffineSpan
span = do
  _ ← mark OpenSquare roles.Plain
  first ← affine
  _ ← mark DotDot roles.Plain
  last ← affine
  _ ← mark CloseSquare roles.Plain
  Gives (record { first = first; last = last })

unfoldable pub a_variable : Rule Variable
a_variable = do
  x ← name roles.Plain
  _ ← word words.In roles.Plain
  s ← span
  Gives (record { name = x; span = s })

-- ---- indices

abbrev pub signed : Bool → ℕ → ℤ
signed true n = neg_ℤ (pos n)
signed false n = pos n

abbrev pub scaled : Rule (ℕ × List ℕ)
scaled = (do
  m ← int roles.Plain
  _ ← mark Star roles.Plain
  x ← name roles.Plain
  Gives (m, x))
    or (do
      x ← name roles.Plain
      Gives (1, x))

abbrev pub addend : Rule ℤ
addend = (do
  negative ← sign roles.Plain
  n ← int roles.Plain
  Gives (signed negative n))
    or Gives (pos 0)

abbrev pub divisor : Rule ℕ
divisor = do
  _ ← mark Slash roles.Plain
  int roles.Plain

abbrev pub index_end : ℕ × List ℕ → Rule Index
index_end f = (do
  d ← divisor
  Gives (record { mul = f.0; name = f.1; add = pos 0; div = d }))
    or (do
      k ← addend
      Gives (record { mul = f.0; name = f.1; add = k; div = 1 }))

abbrev pub grouped_index : Rule Index
grouped_index = do
  _ ← mark OpenRound roles.Plain
  f ← scaled
  k ← addend
  _ ← mark CloseRound roles.Plain
  d ← divisor
  Gives (record { mul = f.0; name = f.1; add = k; div = d })

unfoldable pub index : Rule Index
index = grouped_index
    or (do
      f ← scaled
      index_end f)

-- ---- expressions

-- a read of what a name names
abbrev pub read_end : List ℕ → Rule Node
read_end x = do
  _ ← mark OpenRound roles.Plain
  i ← index
  _ ← mark Comma roles.Plain
  j ← index
  _ ← mark CloseRound roles.Plain
  Gives (read x i j)

-- a name, or a read of what it names
abbrev pub name_end : List ℕ → Rule Node
name_end x = read_end x or Gives (variable x)

abbrev pub named : Rule Node
named = do
  x ← name roles.Node
  name_end x

abbrev pub entry : Rule ℤ
entry = do
  negative ← minus
  n ← int roles.Plain
  Gives (signed negative n)

unfoldable pub row : Rule (List ℤ)
row = do
  _ ← mark OpenSquare roles.Plain
  entries ← separated (mark Comma roles.Plain) entry
  _ ← mark CloseSquare roles.Plain
  Gives entries

unfoldable pub kernel : Rule (List (List ℤ))
kernel = do
  _ ← mark OpenSquare roles.Plain
  rows ← separated (mark Comma roles.Plain) row
  _ ← mark CloseSquare roles.Plain
  Gives rows

abbrev pub a_stencil : Rule Node
a_stencil = do
  _ ← word words.Stencil roles.Node
  _ ← mark OpenRound roles.Plain
  x ← name roles.Plain
  _ ← mark Comma roles.Plain
  d ← int roles.Plain
  _ ← mark Comma roles.Plain
  k ← kernel
  _ ← mark CloseRound roles.Plain
  Gives (stencil x d k)

abbrev pub literal_number : Rule Node
literal_number = do
  n ← int roles.Node
  Gives (number n)

-- what opens no level
abbrev pub leaf : Rule Node
leaf = literal_number or named or a_stencil

-- an operator after a, and its right operand
abbrev pub operand : Rule Node → Node → ProductOp → Rule Node
operand U a factors.Times = do
  b ← U
  Gives (binary Mul a b)
operand U a (factors.Literal op) = do
  n ← int roles.Plain
  Gives (literal op a n)

abbrev pub product_more : Rule Node → Node → Rule Node
product_more U a = do
  f ← factor
  operand U a f

abbrev pub product : Rule Node → Rule Node
product U = do
  a ← U
  many (product_more U) a

abbrev pub sum_op : Bool → BinaryOp
sum_op true = Sub
sum_op false = Add

abbrev pub sum_more : Rule Node → Node → Rule Node
sum_more product a = do
  negative ← sign roles.Node
  b ← product
  Gives (binary (sum_op negative) a b)

abbrev pub sums : Rule Node → Rule Node
sums product = do
  a ← product
  many (sum_more product) a

abbrev pub negation : Rule Node → Rule Node
negation U = do
  _ ← mark Minus roles.Node
  a ← U
  Gives (unary Neg a)

abbrev pub group : Rule Node → Rule Node
group expression = do
  _ ← mark OpenRound roles.Plain
  a ← expression
  _ ← mark CloseRound roles.Plain
  Gives a

-- the rest of a call, after its opening parenthesis
abbrev pub arguments : Rule Node → CallOp → Rule Node
arguments expression (calls.Unary op) = do
  a ← expression
  Gives (unary op a)
arguments expression (calls.Binary op) = do
  a ← expression
  _ ← mark Comma roles.Plain
  b ← expression
  Gives (binary op a b)
arguments expression (calls.Ternary op) = do
  a ← expression
  _ ← mark Comma roles.Plain
  b ← expression
  _ ← mark Comma roles.Plain
  c ← expression
  Gives (ternary op a b c)

abbrev pub called : Rule Node → Rule Node
called expression = do
  op ← call
  _ ← mark OpenRound roles.Plain
  a ← arguments expression op
  _ ← mark CloseRound roles.Plain
  Gives a

abbrev pub selected : Rule Node → Rule Node
selected expression = do
  _ ← word words.Select roles.Node
  _ ← mark OpenRound roles.Plain
  a ← expression
  r ← relation
  b ← expression
  _ ← mark Comma roles.Plain
  c ← expression
  _ ← mark Comma roles.Plain
  d ← expression
  _ ← mark CloseRound roles.Plain
  Gives (select a r b c d)

-- what opens a level, over what may be in it
abbrev pub opened : Rule Node → Rule Node → Rule Node
opened U expression =
    negation U
    or group expression
    or called expression
    or selected expression

-- the entry of a table at the value of an expression, which opens a level
abbrev pub entry_of : Rule Node → List ℕ → Rule Node
entry_of expression x = do
  _ ← mark OpenSquare roles.Plain
  a ← expression
  _ ← mark CloseSquare roles.Plain
  Gives (lookup x a)

abbrev pub looked_up : Rule Node → Rule Node
looked_up expression = do
  x ← name roles.Node
  entry_of expression x

-- with at most this number of levels open at once
unfoldable pub Unary : ℕ → Rule Node
Unary zero = leaf
Unary (suc levels) = leaf or opened (Unary levels) (sums (product (Unary levels))) or looked_up (sums (product (Unary levels)))

unfoldable pub Product : ℕ → Rule Node
Product levels = product (Unary levels)

unfoldable pub Expression : ℕ → Rule Node
Expression levels = sums (Product levels)

-- ---- items

abbrev pub names_end : Role → List ℕ → Rule Names
names_end role x = (do
  _ ← mark Comma roles.Plain
  y ← name role
  _ ← mark Comma roles.Plain
  z ← name role
  Gives (Three x y z))
    or Gives (One x)

abbrev pub names : Role → Rule Names
names role = do
  x ← name role
  names_end role x

abbrev pub a_param : Rule Param
a_param = do
  _ ← word words.Param roles.Plain
  x ← name roles.Param
  _ ← mark Semicolon roles.Plain
  Gives (record { name = x })

abbrev pub a_table : Rule Table
a_table = do
  _ ← word words.Table roles.Plain
  x ← name roles.Table
  s ← span
  _ ← mark Semicolon roles.Plain
  Gives (record { name = x; span = s })

unfoldable pub an_image : Rule Image
an_image = do
  _ ← word words.Image roles.Plain
  ns ← names roles.Stage
  _ ← mark OpenRound roles.Plain
  rows ← affine
  _ ← mark Comma roles.Plain
  columns ← affine
  _ ← mark CloseRound roles.Plain
  _ ← mark Semicolon roles.Plain
  Gives (record { names = ns; rows = rows; columns = columns })

-- the variables of rows and columns
unfoldable pub variables : Rule (Variable × Variable)
variables = do
  _ ← mark OpenRound roles.Plain
  r ← a_variable
  _ ← mark Comma roles.Plain
  c ← a_variable
  _ ← mark CloseRound roles.Plain
  Gives (r, c)

abbrev pub test_end : List ℕ → Rule Test
test_end x = (do
  _ ← mark Percent roles.Plain
  m ← int roles.Plain
  _ ← mark Equals roles.Plain
  r ← int roles.Plain
  Gives (Remainder x m r))
    or (do
      r ← relation
      bound ← affine
      Gives (Compare x r bound))

abbrev pub a_test : Rule Test
a_test = do
  x ← name roles.Plain
  test_end x

unfoldable pub condition : Rule (List Test)
condition = separated (word words.And roles.Plain) a_test

abbrev pub value : ℕ → Rule Node
value levels = do
  _ ← mark Colon roles.Plain
  e ← Expression levels
  _ ← mark Semicolon roles.Plain
  Gives e

abbrev pub a_case : ℕ → List Branch → Rule (List Branch)
a_case levels cases = do
  _ ← word words.Case roles.Case
  c ← condition
  e ← value levels
  Gives (cases ++ record { condition = c; value = e } ∷ [])

abbrev pub otherwise : ℕ → Rule (Option Node)
otherwise levels = (do
  _ ← word words.Else roles.Plain
  e ← value levels
  Gives (Some e))
    or Gives None

unfoldable pub a_function : ℕ → Rule Function
a_function levels = do
  _ ← word words.Func roles.Function
  x ← name roles.Stage
  vs ← variables
  _ ← mark OpenCurly roles.Plain
  cases ← many (a_case levels) []
  e ← otherwise levels
  _ ← mark CloseCurly roles.Plain
  Gives (record { name = x; row = vs.0; column = vs.1; cases = cases; otherwise = e })

unfoldable pub an_accumulator : ℕ → Rule Accumulator
an_accumulator levels = do
  _ ← word words.Accum roles.Plain
  x ← name roles.Stage
  bins ← span
  _ ← word words.Over roles.Plain
  vs ← variables
  f ← fold
  v ← Expression levels
  _ ← word words.At roles.Plain
  b ← Expression levels
  _ ← mark Semicolon roles.Plain
  Gives (record { name = x; bins = bins; row = vs.0; column = vs.1; fold = f; value = v; bin = b })

abbrev pub an_output : Rule Output
an_output = do
  _ ← word words.Output roles.Plain
  ns ← names roles.Plain
  _ ← word words.Max roles.Plain
  most ← int roles.Plain
  _ ← mark Semicolon roles.Plain
  Gives (record { names = ns; max = most })

-- ---- programs

abbrev pub is_output : Declaration → Bool
is_output (output o) = true
is_output _ = false

-- an output, if there is none yet
pub record FirstOutput (items : List Declaration) (text : List Tagged) (o : Output) : Type 0 where
  pub no_other : list_any is_output items ≡ false
  pub it : an_output text o

-- one more item that is not an image
abbrev pub other : ℕ → List Declaration → Rule (List Declaration)
other levels items = (do
  p ← a_param
  Gives (items ++ param p ∷ []))
    or (do
      f ← a_function levels
      Gives (items ++ function f ∷ []))
    or (do
      a ← an_accumulator levels
      Gives (items ++ accumulator a ∷ []))
    or (do
      o ← FirstOutput items
      Gives (items ++ output o ∷ []))
    or (do
      t ← a_table
      Gives (items ++ table t ∷ []))

-- Items in any order, of which exactly one is an image and at most one an output.
unfoldable pub Program : ℕ → Rule (List Declaration)
Program levels = do
  before ← many (other levels) []
  i ← an_image
  many (other levels) (before ++ image i ∷ [])
