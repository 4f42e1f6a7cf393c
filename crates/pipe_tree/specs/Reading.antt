-- Reading tokens from left to right, with one token ahead and the first fault that is met. Only the contracts of functions inside
-- the parser cite this. Each reader is proved to agree with the grammar.
use Rattle.std.specs.Prelude.{ℕ, zero, suc, nat_le, ℤ, pos, Bool, true, false, List, [], ◌∷◌, ◌++◌, length, Option, Some}
use Rattle.std.specs.Prelude.{None, is_some, Result, Ok, Err, if◌then◌else◌}
use Rattle.std.specs.List.{list_any}
use Rattle.pipe_tokens.specs.declared.token.Punct.{Punct}
use Rattle.pipe_tokens.specs.declared.token.Punct.TheVariants.{OpenRound, CloseRound, OpenSquare, CloseSquare, OpenCurly}
use Rattle.pipe_tokens.specs.declared.token.Punct.TheVariants.{CloseCurly, Comma, Semicolon, Colon}
use Rattle.pipe_tokens.specs.declared.token.Punct.TheVariants.{Minus, Star, Slash, Percent, Equals, DotDot}
use Rattle.pipe_tokens.specs.declared.token.Keyword.{Keyword}
use Rattle.pipe_tokens.specs.declared.token.Keyword.TheVariants as words
use Rattle.pipe_tokens.specs.declared.token.Token.{Token}
use Rattle.pipe_tokens.specs.declared.token.Token.TheVariants as token
use Rattle.pipe_tree.specs.declared.fault.ParseFaultKind.{ParseFaultKind}
use Rattle.pipe_tree.specs.declared.fault.ParseFaultKind.TheVariants.{NotAscii, BadToken, Unexpected, NumberTooBig, TooDeep, TooMany}
use Rattle.pipe_tree.specs.declared.fault.Halt.{Halt}
use Rattle.pipe_tree.specs.declared.limits.TextCounts.{TextCounts}
use Rattle.pipe_tree.specs.declared.limits.Role.{Role}
use Rattle.pipe_tree.specs.declared.limits.Role.TheVariants as roles
use Rattle.pipe_tree.specs.declared.ahead.CallOp.{CallOp}
use Rattle.pipe_tree.specs.declared.ahead.CallOp.TheVariants as calls
use Rattle.pipe_tree.specs.declared.ahead.ProductOp.{ProductOp}
use Rattle.pipe_tree.specs.declared.ahead.ProductOp.TheVariants as factors
use Rattle.pipe_tree.specs.declared.ahead.ItemStart.{ItemStart}
use Rattle.pipe_tree.specs.declared.ahead.ItemStart.TheVariants as item_start
use Rattle.pipe_tree.specs.declared.ahead.Opening.{Opening}
use Rattle.pipe_tree.specs.declared.ahead.Opening.TheVariants as opening
use Rattle.pipe_tree.specs.declared.ahead.UnaryStart.{UnaryStart}
use Rattle.pipe_tree.specs.declared.ahead.UnaryStart.TheVariants as start
use Rattle.pipe_tree.specs.declared.tree.AffineSpan.{AffineSpan}
use Rattle.operators.specs.declared.operator.UnaryOp.TheVariants.{Neg}
use Rattle.operators.specs.declared.operator.BinaryOp.TheVariants.{Mul}
use Rattle.operators.specs.declared.operator.ReductionOp.{ReductionOp}
use Rattle.pipe_tree.specs.declared.tree.Image.{Image}
use Rattle.pipe_tree.specs.declared.tree.Index.{Index}
use Rattle.pipe_tree.specs.declared.tree.Names.{Names}
use Rattle.pipe_tree.specs.declared.tree.Names.TheVariants.{One, Three}
use Rattle.pipe_tree.specs.declared.tree.Output.{Output}
use Rattle.pipe_tree.specs.declared.tree.Param.{Param}
use Rattle.operators.specs.declared.operator.Relation.{Relation}
use Rattle.pipe_tree.specs.declared.tree.Table.{Table}
use Rattle.pipe_tree.specs.declared.tree.AffineTerm.{AffineTerm}
use Rattle.pipe_tree.specs.declared.tree.Test.{Test}
use Rattle.pipe_tree.specs.declared.tree.Test.TheVariants.{Compare, Remainder}
use Rattle.pipe_tree.specs.declared.tree.Variable.{Variable}
use Rattle.pipe_tree.specs.Tokens.{head, tail}
use Rattle.pipe_tree.specs.Limits.{most_levels, counted, none_yet}
use Rattle.pipe_tree.specs.Operators.{name_at, sign_at, factor_at, call_at, relation_at, fold_at}
use Rattle.pipe_tree.specs.Lookahead.{is_mark_at, is_word_at, is_number_at, start_at, item_at}
use Rattle.pipe_tree.specs.Grammar.{signed, sum_op, is_output}
use Rattle.pipe_tree.specs.Tree.{Node, number, variable, read, lookup, unary, binary, ternary, literal, select, stencil, Branch}
use Rattle.pipe_tree.specs.Tree.{Function, Accumulator, Declaration, param, image, table, function, accumulator, output}

-- where a reader is: what was counted so far, and the tokens that remain
pub record At : Type 0 where
  pub counts : TextCounts
  pub rest : List Token

abbrev pub Answer : Type 0 → Type 0
Answer X = Result (X × At) Halt

abbrev pub Reader : Type 0 → Type 0
Reader X = At → Answer X

abbrev pub on_ok : {X Y : Type 0} → Answer X → (X → Reader Y) → Answer Y
on_ok (Ok a) f = f a.0 a.1
on_ok (Err h) f = Err h

infixl 10 ◌>>=◌
abbrev pub ◌>>=◌ : {X Y : Type 0} → Reader X → (X → Reader Y) → Reader Y
(r >>= f) s = on_ok (r s) f

abbrev pub gives : {X : Type 0} → X → Reader X
gives x s = Ok (x, s)

abbrev pub halt_of : ParseFaultKind → List Token → Halt
halt_of kind rest = record { kind = kind; remaining = length rest }

abbrev pub kind_at : Option Token → ParseFaultKind
kind_at (Some token.NotAscii) = NotAscii
kind_at (Some token.Bad) = BadToken
kind_at _ = Unexpected

abbrev pub stop : {X : Type 0} → ParseFaultKind → Reader X
stop kind s = Err (halt_of kind s.rest)

abbrev pub refuse : {X : Type 0} → Reader X
refuse s = stop (kind_at (head s.rest)) s

-- continues by the token ahead
abbrev pub by_key : {K X : Type 0} → (Option Token → K) → (K → Reader X) → Reader X
by_key key f s = f (key (head s.rest)) s

-- one reader if the token ahead passes a test, else another
abbrev pub choose : {X : Type 0} → (Option Token → Bool) → Reader X → Reader X → Reader X
choose test r q s = if test (head s.rest) then r s else q s

abbrev pub begun : Option TextCounts → Reader (Unit {0})
begun (Some counts) s = Ok (tt, record { counts = counts; rest = tail s.rest })
begun None s = stop TooMany s

-- passes the token ahead, which counts as the role
abbrev pub begin : Role → Reader (Unit {0})
begin role s = begun (counted role s.counts) s

abbrev pub expect : (Option Token → Bool) → Role → Reader (Unit {0})
expect test role = choose test (begin role) refuse

abbrev pub mark : Punct → Role → Reader (Unit {0})
mark m = expect (is_mark_at m)

abbrev pub word : Keyword → Role → Reader (Unit {0})
word w = expect (is_word_at w)

abbrev pub meant : {X : Type 0} → Role → Option X → Reader X
meant role (Some x) = begin role >>= λ _. gives x
meant role None = refuse

abbrev pub means : {X : Type 0} → (Option Token → Option X) → Role → Reader X
means meaning role = by_key meaning (meant role)

abbrev pub name : Role → Reader (List ℕ)
name = means name_at

abbrev pub sign : Role → Reader Bool
sign = means sign_at

abbrev pub factor : Reader ProductOp
factor = means factor_at roles.Node

abbrev pub call : Reader CallOp
call = means call_at roles.Node

abbrev pub relation : Reader Relation
relation = means relation_at roles.Plain

abbrev pub fold : Reader ReductionOp
fold = means fold_at roles.Plain

abbrev pub int_by : Role → Option Token → Reader ℕ
int_by role (Some (token.Int n)) = if nat_le n 2147483647 then (begin role >>= λ _. gives n) else stop NumberTooBig
int_by role (Some token.TooBig) = stop NumberTooBig
int_by role _ = refuse

abbrev pub int : Role → Reader ℕ
int role = by_key (λ h. h) (int_by role)

-- A loop: `goes` decides by the token ahead whether there is one more turn.
unfoldable pub turns : {A : Type 0} → (A → Option Token → Bool) → (A → Reader A) → ℕ → A → Reader A
turns goes turn zero a = gives a
turns goes turn (suc n) a = choose (goes a) (turn a >>= turns goes turn n) (gives a)

-- each turn passes a token, so there are no more turns than tokens
unfoldable pub loop : {A : Type 0} → (A → Option Token → Bool) → (A → Reader A) → A → Reader A
loop goes turn a s = turns goes turn (suc (length s.rest)) a s

-- continues while the token ahead passes a test
abbrev pub while : {A : Type 0} → (Option Token → Bool) → (A → Reader A) → A → Reader A
while test = loop (λ _. test)

abbrev pub next_behind : {X : Type 0} → Reader (Unit {0}) → Reader X → List X → Reader (List X)
next_behind separator one xs = do
  _ ← separator
  x ← one
  gives (xs ++ x ∷ [])

abbrev pub separated : {X : Type 0} → (Option Token → Bool) → Reader X → Reader (List X)
separated test one = do
  first ← one
  while test (next_behind (expect test roles.Plain) one) (first ∷ [])

-- ---- affine sums, spans and variables

abbrev pub minus : Reader Bool
minus = choose (is_mark_at Minus)
    (do
      _ ← mark Minus roles.Plain
      gives true)
    (gives false)

abbrev pub factor_end : ℕ → Reader (ℕ × Option (List ℕ))
factor_end n = choose (is_mark_at Star)
    (do
      _ ← mark Star roles.Plain
      x ← name roles.Plain
      gives (n, Some x))
    (gives (n, None))

unfoldable pub scaled_name : Reader (ℕ × Option (List ℕ))
scaled_name = choose is_number_at
    (do
      n ← int roles.Plain
      factor_end n)
    (do
      x ← name roles.Plain
      gives (1, Some x))

abbrev pub term : Bool → List AffineTerm → Reader (List AffineTerm)
term negative terms = do
  f ← scaled_name
  gives (terms ++ record { negative = negative; factor = f.0; name = f.1 } ∷ [])

abbrev pub is_sign_at : Option Token → Bool
is_sign_at h = is_some (sign_at h)

abbrev pub next_term : List AffineTerm → Reader (List AffineTerm)
next_term terms = do
  negative ← sign roles.Plain
  term negative terms

unfoldable pub affine : Reader (List AffineTerm)
affine = do
  negative ← minus
  terms ← term negative []
  while is_sign_at next_term terms

unfoldable pub span : Reader AffineSpan
span = do
  _ ← mark OpenSquare roles.Plain
  first ← affine
  _ ← mark DotDot roles.Plain
  last ← affine
  _ ← mark CloseSquare roles.Plain
  gives (record { first = first; last = last })

unfoldable pub a_variable : Reader Variable
a_variable = do
  x ← name roles.Plain
  _ ← word words.In roles.Plain
  s ← span
  gives (record { name = x; span = s })

-- ---- indices

unfoldable pub scaled : Reader (ℕ × List ℕ)
scaled = choose is_number_at
    (do
      m ← int roles.Plain
      _ ← mark Star roles.Plain
      x ← name roles.Plain
      gives (m, x))
    (do
      x ← name roles.Plain
      gives (1, x))

unfoldable pub addend : Reader ℤ
addend = choose is_sign_at
    (do
      negative ← sign roles.Plain
      n ← int roles.Plain
      gives (signed negative n))
    (gives (pos 0))

unfoldable pub divisor : Reader ℕ
divisor = do
  _ ← mark Slash roles.Plain
  int roles.Plain

abbrev pub index_end : ℕ × List ℕ → Reader Index
index_end f = choose (is_mark_at Slash)
    (do
      d ← divisor
      gives (record { mul = f.0; name = f.1; add = pos 0; div = d }))
    (do
      k ← addend
      gives (record { mul = f.0; name = f.1; add = k; div = 1 }))

unfoldable pub grouped_index : Reader Index
grouped_index = do
  _ ← mark OpenRound roles.Plain
  f ← scaled
  k ← addend
  _ ← mark CloseRound roles.Plain
  d ← divisor
  gives (record { mul = f.0; name = f.1; add = k; div = d })

unfoldable pub index : Reader Index
index = choose (is_mark_at OpenRound)
    grouped_index
    (do
      f ← scaled
      index_end f)

-- ---- expressions

abbrev pub read_end : List ℕ → Reader Node
read_end x = do
  _ ← mark OpenRound roles.Plain
  i ← index
  _ ← mark Comma roles.Plain
  j ← index
  _ ← mark CloseRound roles.Plain
  gives (read x i j)

-- what comes after a name, where `entry` reads an entry of a table
abbrev pub name_end : (List ℕ → Reader Node) → List ℕ → Reader Node
name_end entry x = choose (is_mark_at OpenRound) (read_end x) (choose (is_mark_at OpenSquare) (entry x) (gives (variable x)))

unfoldable pub named : (List ℕ → Reader Node) → Reader Node
named entry = do
  x ← name roles.Node
  name_end entry x

unfoldable pub entry : Reader ℤ
entry = do
  negative ← minus
  n ← int roles.Plain
  gives (signed negative n)

unfoldable pub row : Reader (List ℤ)
row = do
  _ ← mark OpenSquare roles.Plain
  entries ← separated (is_mark_at Comma) entry
  _ ← mark CloseSquare roles.Plain
  gives entries

unfoldable pub kernel : Reader (List (List ℤ))
kernel = do
  _ ← mark OpenSquare roles.Plain
  rows ← separated (is_mark_at Comma) row
  _ ← mark CloseSquare roles.Plain
  gives rows

unfoldable pub a_stencil : Reader Node
a_stencil = do
  _ ← word words.Stencil roles.Node
  _ ← mark OpenRound roles.Plain
  x ← name roles.Plain
  _ ← mark Comma roles.Plain
  d ← int roles.Plain
  _ ← mark Comma roles.Plain
  k ← kernel
  _ ← mark CloseRound roles.Plain
  gives (stencil x d k)

abbrev pub literal_number : Reader Node
literal_number = do
  n ← int roles.Node
  gives (number n)

abbrev pub operand : Reader Node → Node → ProductOp → Reader Node
operand u a factors.Times = do
  b ← u
  gives (binary Mul a b)
operand u a (factors.Literal op) = do
  n ← int roles.Plain
  gives (literal op a n)

abbrev pub is_factor_at : Option Token → Bool
is_factor_at h = is_some (factor_at h)

abbrev pub product_more : Reader Node → Node → Reader Node
product_more u a = do
  f ← factor
  operand u a f

abbrev pub product_of : Reader Node → Reader Node
product_of u = do
  a ← u
  while is_factor_at (product_more u) a

abbrev pub sum_more : Reader Node → Node → Reader Node
sum_more product a = do
  negative ← sign roles.Node
  b ← product
  gives (binary (sum_op negative) a b)

abbrev pub sum_of : Reader Node → Reader Node
sum_of product = do
  a ← product
  while is_sign_at (sum_more product) a

abbrev pub negation : Reader Node → Reader Node
negation u = do
  _ ← mark Minus roles.Node
  a ← u
  gives (unary Neg a)

abbrev pub group : Reader Node → Reader Node
group expression = do
  _ ← mark OpenRound roles.Plain
  a ← expression
  _ ← mark CloseRound roles.Plain
  gives a

-- the rest of a call, after its opening parenthesis
abbrev pub arguments : Reader Node → CallOp → Reader Node
arguments expression (calls.Unary op) = do
  a ← expression
  gives (unary op a)
arguments expression (calls.Binary op) = do
  a ← expression
  _ ← mark Comma roles.Plain
  b ← expression
  gives (binary op a b)
arguments expression (calls.Ternary op) = do
  a ← expression
  _ ← mark Comma roles.Plain
  b ← expression
  _ ← mark Comma roles.Plain
  c ← expression
  gives (ternary op a b c)

abbrev pub called : Reader Node → Reader Node
called expression = do
  op ← call
  _ ← mark OpenRound roles.Plain
  a ← arguments expression op
  _ ← mark CloseRound roles.Plain
  gives a

abbrev pub selected : Reader Node → Reader Node
selected expression = do
  _ ← word words.Select roles.Node
  _ ← mark OpenRound roles.Plain
  a ← expression
  r ← relation
  b ← expression
  _ ← mark Comma roles.Plain
  c ← expression
  _ ← mark Comma roles.Plain
  d ← expression
  _ ← mark CloseRound roles.Plain
  gives (select a r b c d)

-- what opens a level, over what may be in it
abbrev pub opened : Reader Node → Reader Node → Opening → Reader Node
opened u expression opening.Minus = negation u
opened u expression opening.Group = group expression
opened u expression opening.Call = called expression
opened u expression opening.Select = selected expression

-- the entry of a table at the value of an expression
abbrev pub entry_of : Reader Node → List ℕ → Reader Node
entry_of expression x = do
  _ ← mark OpenSquare roles.Plain
  a ← expression
  _ ← mark CloseSquare roles.Plain
  gives (lookup x a)

-- a unary by what it begins with
abbrev pub unary_by : (Opening → Reader Node) → (List ℕ → Reader Node) → UnaryStart → Reader Node
unary_by open_level entry start.Number = literal_number
unary_by open_level entry start.Name = named entry
unary_by open_level entry start.Stencil = a_stencil
unary_by open_level entry (start.Opening o) = open_level o
unary_by open_level entry start.Nothing = refuse

-- with the number of levels that may still be opened
unfoldable pub unary_at : ℕ → Reader Node
unary_at zero = by_key start_at (unary_by (λ _. stop TooDeep) (λ _. stop TooDeep))
unary_at (suc levels) =
    by_key start_at
    (unary_by (opened (unary_at levels) (sum_of (product_of (unary_at levels)))) (entry_of (sum_of (product_of (unary_at levels)))))

-- the entry of a table, with the number of levels that may still be opened
abbrev pub entry_at : ℕ → List ℕ → Reader Node
entry_at zero x = stop TooDeep
entry_at (suc levels) x = entry_of (sum_of (product_of (unary_at levels))) x

unfoldable pub product_at : ℕ → Reader Node
product_at levels = product_of (unary_at levels)

unfoldable pub expression_at : ℕ → Reader Node
expression_at levels = sum_of (product_at levels)

-- ---- items

abbrev pub names_end : Role → List ℕ → Reader Names
names_end role x = choose (is_mark_at Comma)
    (do
      _ ← mark Comma roles.Plain
      y ← name role
      _ ← mark Comma roles.Plain
      z ← name role
      gives (Three x y z))
    (gives (One x))

unfoldable pub names : Role → Reader Names
names role = do
  x ← name role
  names_end role x

unfoldable pub a_param : Reader Param
a_param = do
  _ ← word words.Param roles.Plain
  x ← name roles.Param
  _ ← mark Semicolon roles.Plain
  gives (record { name = x })

unfoldable pub a_table : Reader Table
a_table = do
  _ ← word words.Table roles.Plain
  x ← name roles.Table
  s ← span
  _ ← mark Semicolon roles.Plain
  gives (record { name = x; span = s })

unfoldable pub an_image : Reader Image
an_image = do
  _ ← word words.Image roles.Plain
  ns ← names roles.Stage
  _ ← mark OpenRound roles.Plain
  rows ← affine
  _ ← mark Comma roles.Plain
  columns ← affine
  _ ← mark CloseRound roles.Plain
  _ ← mark Semicolon roles.Plain
  gives (record { names = ns; rows = rows; columns = columns })

unfoldable pub variables : Reader (Variable × Variable)
variables = do
  _ ← mark OpenRound roles.Plain
  r ← a_variable
  _ ← mark Comma roles.Plain
  c ← a_variable
  _ ← mark CloseRound roles.Plain
  gives (r, c)

abbrev pub test_end : List ℕ → Reader Test
test_end x = choose (is_mark_at Percent)
    (do
      _ ← mark Percent roles.Plain
      m ← int roles.Plain
      _ ← mark Equals roles.Plain
      r ← int roles.Plain
      gives (Remainder x m r))
    (do
      r ← relation
      bound ← affine
      gives (Compare x r bound))

unfoldable pub a_test : Reader Test
a_test = do
  x ← name roles.Plain
  test_end x

unfoldable pub condition : Reader (List Test)
condition = separated (is_word_at words.And) a_test

unfoldable pub value : ℕ → Reader Node
value levels = do
  _ ← mark Colon roles.Plain
  e ← expression_at levels
  _ ← mark Semicolon roles.Plain
  gives e

abbrev pub a_case : ℕ → List Branch → Reader (List Branch)
a_case levels cases = do
  _ ← word words.Case roles.Case
  c ← condition
  e ← value levels
  gives (cases ++ record { condition = c; value = e } ∷ [])

unfoldable pub cases_at : ℕ → Reader (List Branch)
cases_at levels = while (is_word_at words.Case) (a_case levels) []

unfoldable pub otherwise : ℕ → Reader (Option Node)
otherwise levels = choose (is_word_at words.Else)
    (do
      _ ← word words.Else roles.Plain
      e ← value levels
      gives (Some e))
    (gives None)

unfoldable pub a_function : ℕ → Reader Function
a_function levels = do
  _ ← word words.Func roles.Function
  x ← name roles.Stage
  vs ← variables
  _ ← mark OpenCurly roles.Plain
  cases ← cases_at levels
  e ← otherwise levels
  _ ← mark CloseCurly roles.Plain
  gives (record { name = x; row = vs.0; column = vs.1; cases = cases; otherwise = e })

unfoldable pub an_accumulator : ℕ → Reader Accumulator
an_accumulator levels = do
  _ ← word words.Accum roles.Plain
  x ← name roles.Stage
  bins ← span
  _ ← word words.Over roles.Plain
  vs ← variables
  f ← fold
  v ← expression_at levels
  _ ← word words.At roles.Plain
  b ← expression_at levels
  _ ← mark Semicolon roles.Plain
  gives (record { name = x; bins = bins; row = vs.0; column = vs.1; fold = f; value = v; bin = b })

unfoldable pub an_output : Reader Output
an_output = do
  _ ← word words.Output roles.Plain
  ns ← names roles.Plain
  _ ← word words.Max roles.Plain
  most ← int roles.Plain
  _ ← mark Semicolon roles.Plain
  gives (record { names = ns; max = most })

-- ---- programs

-- an item by what it begins with
abbrev pub item_by : ℕ → ItemStart → Reader Declaration
item_by levels item_start.Param = a_param >>= λ p. gives (param p)
item_by levels item_start.Table = a_table >>= λ t. gives (table t)
item_by levels item_start.Func = a_function levels >>= λ f. gives (function f)
item_by levels item_start.Accum = an_accumulator levels >>= λ a. gives (accumulator a)
item_by levels item_start.Output = an_output >>= λ o. gives (output o)
item_by levels item_start.Nothing = refuse

unfoldable pub item : ℕ → Reader Declaration
item levels = by_key item_at (item_by levels)

-- whether one more item begins that is not an image
abbrev pub goes_on_by : List Declaration → ItemStart → Bool
goes_on_by items item_start.Param = true
goes_on_by items item_start.Table = true
goes_on_by items item_start.Func = true
goes_on_by items item_start.Accum = true
goes_on_by items item_start.Output = if list_any is_output items then false else true
goes_on_by items item_start.Nothing = false

abbrev pub goes_on : List Declaration → Option Token → Bool
goes_on items h = goes_on_by items (item_at h)

abbrev pub other : ℕ → List Declaration → Reader (List Declaration)
other levels items = do
  d ← item levels
  gives (items ++ d ∷ [])

unfoldable pub others : ℕ → List Declaration → Reader (List Declaration)
others levels = loop goes_on (other levels)

unfoldable pub program_at : ℕ → Reader (List Declaration)
program_at levels = do
  before ← others levels []
  i ← an_image
  others levels (before ++ image i ∷ [])

-- all of the tokens
abbrev pub at_end : {X : Type 0} → X → Reader X
at_end x = choose is_some refuse (gives x)

abbrev pub whole : ℕ → Reader (List Declaration)
whole levels = do
  items ← program_at levels
  at_end items

abbrev pub value_of : {X : Type 0} → Answer X → Result X Halt
value_of (Ok a) = Ok a.0
value_of (Err h) = Err h

unfoldable pub program_of : List Token → Result (List Declaration) Halt
program_of tokens = value_of (whole most_levels (record { counts = none_yet; rest = tokens }))
