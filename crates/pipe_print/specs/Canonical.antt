-- The canonical text of a tree: its tokens in the fewest bytes. It has no factor of 1 before a name, no addend of 0, no divisor
-- of 1, and no parenthesis that the grammar does not need.
use Rattle.std.specs.Prelude.{ℕ, zero, suc, ℤ, pos, negsuc, Bool, true, false}
use Rattle.std.specs.Prelude.{not, ◌&&◌, ◌==◌, List, [], ◌∷◌, ◌++◌, Option, Some, None, if◌then◌else◌}
use Rattle.std.specs.List.{flat_map}
use Rattle.pipe_tokens.specs.declared.token.Token.{Token}
use Rattle.pipe_tokens.specs.declared.token.Token.TheVariants as tokens
use Rattle.pipe_tokens.specs.declared.token.Punct.{Punct}
use Rattle.pipe_tokens.specs.declared.token.Punct.TheVariants.{OpenRound, CloseRound, OpenSquare, CloseSquare, OpenCurly}
use Rattle.pipe_tokens.specs.declared.token.Punct.TheVariants.{CloseCurly, Comma, Semicolon, Colon, Plus, Minus, Star, Slash}
use Rattle.pipe_tokens.specs.declared.token.Punct.TheVariants.{Percent, ShiftLeft, ShiftRight, AtMost, AtLeast, Equals, DotDot}
use Rattle.pipe_tokens.specs.declared.token.Keyword.{Keyword}
use Rattle.pipe_tokens.specs.declared.token.Keyword.TheVariants as words
use Rattle.pipe_tokens.specs.Spelling.{spelling}
use Rattle.pipe_tree.specs.declared.tree.AffineTerm.{AffineTerm}
use Rattle.pipe_tree.specs.declared.tree.Test.{Test}
use Rattle.pipe_tree.specs.declared.tree.Test.TheVariants.{Compare, Remainder}
use Rattle.pipe_tree.specs.declared.tree.Index.{Index}
use Rattle.operators.specs.declared.operator.UnaryOp.{UnaryOp}
use Rattle.operators.specs.declared.operator.UnaryOp.TheVariants.{Neg, Abs}
use Rattle.operators.specs.declared.operator.BinaryOp.{BinaryOp}
use Rattle.operators.specs.declared.operator.BinaryOp.TheVariants.{Add, Sub, Mul, Min, Max}
use Rattle.operators.specs.declared.operator.TernaryOp.{TernaryOp}
use Rattle.operators.specs.declared.operator.TernaryOp.TheVariants.{Clamp}
use Rattle.operators.specs.declared.operator.LiteralOp.{LiteralOp}
use Rattle.operators.specs.declared.operator.LiteralOp.TheVariants.{Div, Rem, Shl, Shr}
use Rattle.operators.specs.declared.operator.Relation.{Relation}
use Rattle.operators.specs.declared.operator.Relation.TheVariants as relations
use Rattle.operators.specs.declared.operator.ReductionOp.{ReductionOp}
use Rattle.operators.specs.declared.operator.ReductionOp.TheVariants as folds
use Rattle.pipe_tree.specs.declared.tree.AffineSpan.{AffineSpan}
use Rattle.pipe_tree.specs.declared.tree.Variable.{Variable}
use Rattle.pipe_tree.specs.declared.tree.Names.{Names}
use Rattle.pipe_tree.specs.declared.tree.Names.TheVariants.{One, Three}
use Rattle.pipe_tree.specs.declared.tree.Param.{Param}
use Rattle.pipe_tree.specs.declared.tree.Image.{Image}
use Rattle.pipe_tree.specs.declared.tree.Table.{Table}
use Rattle.pipe_tree.specs.declared.tree.Output.{Output}
use Rattle.pipe_tree.specs.Tree.{Node, number, variable, read, lookup, unary, binary, ternary, literal, select, stencil, Branch}
use Rattle.pipe_tree.specs.Tree.{Function, Accumulator, Declaration, param, image, table, function, accumulator, output}
use Rattle.pipe_print.specs.declared.forms.UnaryForm.{UnaryForm}
use Rattle.pipe_print.specs.declared.forms.UnaryForm.TheVariants as unary_forms
use Rattle.pipe_print.specs.declared.forms.BinaryForm.{BinaryForm}
use Rattle.pipe_print.specs.declared.forms.BinaryForm.TheVariants as binary_forms
use Rattle.pipe_print.specs.declared.place.ExpressionPlace.{ExpressionPlace}
use Rattle.pipe_print.specs.declared.place.ExpressionPlace.TheVariants as places

-- ---- single tokens

infixr 60 ◌⌢◌
-- tokens, and more tokens after them
abbrev pub ◌⌢◌ : List Token → List Token → List Token
front ⌢ back = front ++ back

abbrev pub mark : Punct → List Token
mark m = tokens.Punct m ∷ []

abbrev pub word : Keyword → List Token
word w = tokens.Keyword w ∷ []

abbrev pub name : List ℕ → List Token
name x = tokens.Name x ∷ []

abbrev pub int : ℕ → List Token
int n = tokens.Int n ∷ []

abbrev pub sign_tokens : Bool → List Token
sign_tokens true = mark Minus
sign_tokens false = mark Plus

-- ---- lists

-- the parts, with the separator before each
abbrev pub each_behind : {X : Type 0} → List Token → (X → List Token) → List X → List Token
each_behind separator tokens_of xs = flat_map (λ x. separator ⌢ tokens_of x) xs

-- the parts, with the separator between neighbours
abbrev pub separated : {X : Type 0} → List Token → (X → List Token) → List X → List Token
separated separator tokens_of [] = []
separated separator tokens_of (x ∷ xs) = tokens_of x ⌢ each_behind separator tokens_of xs

-- the parts in brackets, with commas between neighbours
abbrev pub bracketed : {X : Type 0} → (X → List Token) → List X → List Token
bracketed tokens_of xs = mark OpenSquare ⌢ separated (mark Comma) tokens_of xs ⌢ mark CloseSquare

-- ---- affine sums

-- a name that is multiplied. A factor of 1 is omitted
abbrev pub scaled_tokens : ℕ → List ℕ → List Token
scaled_tokens factor x = if factor == 1 then name x else (int factor ⌢ mark Star ⌢ name x)

-- a term without its sign
abbrev pub product_tokens : ℕ → Option (List ℕ) → List Token
product_tokens factor (Some x) = scaled_tokens factor x
product_tokens factor None = int factor

abbrev pub term_tokens : AffineTerm → List Token
term_tokens t = product_tokens t.factor t.name

-- a term after others
abbrev pub next_term_tokens : AffineTerm → List Token
next_term_tokens t = sign_tokens t.negative ⌢ term_tokens t

-- a number or a term that may have a minus before it
abbrev pub signed_tokens : Bool → List Token → List Token
signed_tokens negative rest = if negative then (mark Minus ⌢ rest) else rest

abbrev pub affine_tokens : List AffineTerm → List Token
affine_tokens [] = []
affine_tokens (t ∷ ts) = signed_tokens t.negative (term_tokens t) ⌢ flat_map next_term_tokens ts

abbrev pub span_tokens : AffineSpan → List Token
span_tokens s = mark OpenSquare ⌢ affine_tokens s.first ⌢ mark DotDot ⌢ affine_tokens s.last ⌢ mark CloseSquare

abbrev pub variable_tokens : Variable → List Token
variable_tokens v = name v.name ⌢ word words.In ⌢ span_tokens v.span

-- ---- indices and kernels

abbrev pub grouped : List Token → List Token
grouped ts = mark OpenRound ⌢ ts ⌢ mark CloseRound

abbrev pub grouped_if : Bool → List Token → List Token
grouped_if b ts = if b then grouped ts else ts

-- an addend of 0 is omitted
abbrev pub addend_tokens : ℤ → List Token
addend_tokens (pos zero) = []
addend_tokens (pos (suc n)) = mark Plus ⌢ int (suc n)
addend_tokens (negsuc n) = mark Minus ⌢ int (suc n)

-- a divisor of 1 is omitted
abbrev pub divisor_tokens : ℕ → List Token
divisor_tokens div = if div == 1 then [] else (mark Slash ⌢ int div)

abbrev pub is_zero : ℤ → Bool
is_zero (pos zero) = true
is_zero _ = false

-- there are parentheses exactly where something is added and the sum is divided
abbrev pub index_tokens : Index → List Token
index_tokens i =
    grouped_if (not (is_zero i.add) && not (i.div == 1)) (scaled_tokens i.mul i.name ⌢ addend_tokens i.add) ⌢ divisor_tokens i.div

abbrev pub entry_tokens : ℤ → List Token
entry_tokens (pos n) = int n
entry_tokens (negsuc n) = mark Minus ⌢ int (suc n)

abbrev pub row_tokens : List ℤ → List Token
row_tokens entries = bracketed entry_tokens entries

abbrev pub kernel_tokens : List (List ℤ) → List Token
kernel_tokens rows = bracketed row_tokens rows

abbrev pub read_tokens : List ℕ → Index → Index → List Token
read_tokens x row column = name x ⌢ mark OpenRound ⌢ index_tokens row ⌢ mark Comma ⌢ index_tokens column ⌢ mark CloseRound

abbrev pub stencil_tokens : List ℕ → ℕ → List (List ℤ) → List Token
stencil_tokens x divisor kernel =
    word words.Stencil ⌢ mark OpenRound ⌢ name x ⌢ mark Comma ⌢ int divisor ⌢ mark Comma ⌢ kernel_tokens kernel ⌢ mark CloseRound

-- ---- operators

abbrev pub unary_form : UnaryOp → UnaryForm
unary_form Neg = unary_forms.Prefix Minus
unary_form Abs = unary_forms.Call words.Abs

abbrev pub binary_form : BinaryOp → BinaryForm
binary_form Add = binary_forms.Sum Plus
binary_form Sub = binary_forms.Sum Minus
binary_form Mul = binary_forms.Product Star
binary_form Min = binary_forms.Call words.Min
binary_form Max = binary_forms.Call words.Max

abbrev pub ternary_word : TernaryOp → Keyword
ternary_word Clamp = words.Clamp

abbrev pub literal_mark : LiteralOp → Punct
literal_mark Div = Slash
literal_mark Rem = Percent
literal_mark Shl = ShiftLeft
literal_mark Shr = ShiftRight

abbrev pub relation_mark : Relation → Punct
relation_mark relations.AtMost = AtMost
relation_mark relations.AtLeast = AtLeast
relation_mark relations.Equals = Equals

-- ---- expressions

-- The place of an expression accepts any expression, no sum, or no sum and no product (`ExpressionPlace`). What it does not accept is put
-- in parentheses: a sum of two, and a product of two.
abbrev pub sum_in : ExpressionPlace → List Token → List Token
sum_in places.Sum ts = ts
sum_in places.Product ts = grouped ts
sum_in places.Unary ts = grouped ts

abbrev pub product_in : ExpressionPlace → List Token → List Token
product_in places.Sum ts = ts
product_in places.Product ts = ts
product_in places.Unary ts = grouped ts

-- an operator and its operands, by its form. The tokens of an operand depend on its place
abbrev pub unary_tokens : UnaryForm → (ExpressionPlace → List Token) → List Token
unary_tokens (unary_forms.Prefix m) a = mark m ⌢ a places.Unary
unary_tokens (unary_forms.Call w) a = word w ⌢ grouped (a places.Sum)

abbrev pub binary_tokens : BinaryForm → (ExpressionPlace → List Token) → (ExpressionPlace → List Token) → ExpressionPlace → List Token
binary_tokens (binary_forms.Sum m) a b p = sum_in p (a places.Sum ⌢ mark m ⌢ b places.Product)
binary_tokens (binary_forms.Product m) a b p = product_in p (a places.Product ⌢ mark m ⌢ b places.Unary)
binary_tokens (binary_forms.Call w) a b p = word w ⌢ grouped (a places.Sum ⌢ mark Comma ⌢ b places.Sum)

abbrev pub expression_tokens : Node → ExpressionPlace → List Token
expression_tokens (number n) p = int n
expression_tokens (variable x) p = name x
expression_tokens (read x row column) p = read_tokens x row column
expression_tokens (lookup x a) p = name x ⌢ mark OpenSquare ⌢ expression_tokens a places.Sum ⌢ mark CloseSquare
expression_tokens (unary op a) p = unary_tokens (unary_form op) (expression_tokens a)
expression_tokens (binary op a b) p = binary_tokens (binary_form op) (expression_tokens a) (expression_tokens b) p
expression_tokens (ternary op a b c) p =
    word (ternary_word op) ⌢ grouped (expression_tokens a places.Sum ⌢ mark Comma ⌢ expression_tokens b places.Sum ⌢ mark Comma ⌢
    expression_tokens c places.Sum)
expression_tokens (literal op a n) p = product_in p (expression_tokens a places.Product ⌢ mark (literal_mark op) ⌢ int n)
expression_tokens (select a relation b held other) p =
    word words.Select ⌢ mark OpenRound ⌢ expression_tokens a places.Sum ⌢ mark (relation_mark relation) ⌢ expression_tokens b places.Sum
    ⌢ mark Comma ⌢ expression_tokens held places.Sum ⌢ mark Comma ⌢ expression_tokens other places.Sum ⌢ mark CloseRound
expression_tokens (stencil x divisor kernel) p = stencil_tokens x divisor kernel

-- ---- items

abbrev pub names_tokens : Names → List Token
names_tokens (One x) = name x
names_tokens (Three x y z) = name x ⌢ mark Comma ⌢ name y ⌢ mark Comma ⌢ name z

abbrev pub variables_tokens : Variable → Variable → List Token
variables_tokens row column = mark OpenRound ⌢ variable_tokens row ⌢ mark Comma ⌢ variable_tokens column ⌢ mark CloseRound

abbrev pub test_tokens : Test → List Token
test_tokens (Compare x relation bound) = name x ⌢ mark (relation_mark relation) ⌢ affine_tokens bound
test_tokens (Remainder x modulus remainder) = name x ⌢ mark Percent ⌢ int modulus ⌢ mark Equals ⌢ int remainder

abbrev pub condition_tokens : List Test → List Token
condition_tokens tests = separated (word words.And) test_tokens tests

abbrev pub value_tokens : Node → List Token
value_tokens value = mark Colon ⌢ expression_tokens value places.Sum ⌢ mark Semicolon

abbrev pub case_tokens : Branch → List Token
case_tokens c = word words.Case ⌢ condition_tokens c.condition ⌢ value_tokens c.value

abbrev pub otherwise_tokens : Option Node → List Token
otherwise_tokens None = []
otherwise_tokens (Some value) = word words.Else ⌢ value_tokens value

abbrev pub fold_word : ReductionOp → Keyword
fold_word folds.Sum = words.Sum
fold_word folds.Min = words.Min
fold_word folds.Max = words.Max

abbrev pub param_tokens : Param → List Token
param_tokens p = word words.Param ⌢ name p.name ⌢ mark Semicolon

abbrev pub table_tokens : Table → List Token
table_tokens t = word words.Table ⌢ name t.name ⌢ span_tokens t.span ⌢ mark Semicolon

abbrev pub image_tokens : Image → List Token
image_tokens i =
    word words.Image ⌢ names_tokens i.names ⌢ mark OpenRound ⌢ affine_tokens i.rows ⌢ mark Comma ⌢ affine_tokens i.columns ⌢ mark CloseRound
    ⌢ mark Semicolon

abbrev pub function_tokens : Function → List Token
function_tokens f =
    word words.Func ⌢ name f.name ⌢ variables_tokens f.row f.column ⌢ mark OpenCurly ⌢ flat_map case_tokens f.cases ⌢ otherwise_tokens
    f.otherwise ⌢ mark CloseCurly

-- the value that a point adds to its bin, and the bin
abbrev pub update_tokens : Accumulator → List Token
update_tokens a =
    word (fold_word a.fold) ⌢ expression_tokens a.value places.Sum ⌢ word words.At ⌢ expression_tokens a.bin places.Sum ⌢ mark Semicolon

abbrev pub accumulator_tokens : Accumulator → List Token
accumulator_tokens a =
    word words.Accum ⌢ name a.name ⌢ span_tokens a.bins ⌢ word words.Over ⌢ variables_tokens a.row a.column ⌢ update_tokens a

abbrev pub output_tokens : Output → List Token
output_tokens o = word words.Output ⌢ names_tokens o.names ⌢ word words.Max ⌢ int o.max ⌢ mark Semicolon

abbrev pub item_tokens : Declaration → List Token
item_tokens (param p) = param_tokens p
item_tokens (image i) = image_tokens i
item_tokens (table t) = table_tokens t
item_tokens (function f) = function_tokens f
item_tokens (accumulator a) = accumulator_tokens a
item_tokens (output o) = output_tokens o

-- ---- texts

abbrev pub canonical_tokens : List Declaration → List Token
canonical_tokens tree = flat_map item_tokens tree

-- the canonical text
abbrev pub canonical : List Declaration → List ℕ
canonical tree = spelling (canonical_tokens tree)
