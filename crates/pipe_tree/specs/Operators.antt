-- The meaning of single tokens: names, signs, operators and relations. The grammar cites these tables.
use Rattle.std.specs.Prelude.{ℕ, Bool, true, false, List, Option, Some, None}
use Rattle.pipe_tokens.specs.declared.token.Token.{Token}
use Rattle.pipe_tokens.specs.declared.token.Token.TheVariants as token
use Rattle.pipe_tokens.specs.declared.token.Punct.TheVariants as mark
use Rattle.pipe_tokens.specs.declared.token.Keyword.TheVariants as word
use Rattle.operators.specs.declared.operator.UnaryOp.TheVariants as unary
use Rattle.operators.specs.declared.operator.BinaryOp.TheVariants as binary
use Rattle.operators.specs.declared.operator.TernaryOp.TheVariants as ternary
use Rattle.operators.specs.declared.operator.LiteralOp.TheVariants as literal
use Rattle.operators.specs.declared.operator.ReductionOp.{ReductionOp}
use Rattle.operators.specs.declared.operator.ReductionOp.TheVariants as fold
use Rattle.operators.specs.declared.operator.Relation.{Relation}
use Rattle.operators.specs.declared.operator.Relation.TheVariants as relation
use Rattle.pipe_tree.specs.declared.ahead.CallOp.{CallOp}
use Rattle.pipe_tree.specs.declared.ahead.CallOp.TheVariants as call
use Rattle.pipe_tree.specs.declared.ahead.ProductOp.{ProductOp}
use Rattle.pipe_tree.specs.declared.ahead.ProductOp.TheVariants as factor

abbrev pub name_at : Option Token → Option (List ℕ)
name_at (Some (token.Name x)) = Some x
name_at _ = None

-- whether the sign is a minus
abbrev pub sign_at : Option Token → Option Bool
sign_at (Some (token.Punct mark.Plus)) = Some false
sign_at (Some (token.Punct mark.Minus)) = Some true
sign_at _ = None

-- the operators of products
abbrev pub factor_at : Option Token → Option ProductOp
factor_at (Some (token.Punct mark.Star)) = Some factor.Times
factor_at (Some (token.Punct mark.Slash)) = Some (factor.Literal literal.Div)
factor_at (Some (token.Punct mark.Percent)) = Some (factor.Literal literal.Rem)
factor_at (Some (token.Punct mark.ShiftLeft)) = Some (factor.Literal literal.Shl)
factor_at (Some (token.Punct mark.ShiftRight)) = Some (factor.Literal literal.Shr)
factor_at _ = None

-- the operators that are called by a word
abbrev pub call_at : Option Token → Option CallOp
call_at (Some (token.Keyword word.Abs)) = Some (call.Unary unary.Abs)
call_at (Some (token.Keyword word.Min)) = Some (call.Binary binary.Min)
call_at (Some (token.Keyword word.Max)) = Some (call.Binary binary.Max)
call_at (Some (token.Keyword word.Clamp)) = Some (call.Ternary ternary.Clamp)
call_at _ = None

abbrev pub relation_at : Option Token → Option Relation
relation_at (Some (token.Punct mark.AtMost)) = Some relation.AtMost
relation_at (Some (token.Punct mark.AtLeast)) = Some relation.AtLeast
relation_at (Some (token.Punct mark.Equals)) = Some relation.Equals
relation_at _ = None

abbrev pub fold_at : Option Token → Option ReductionOp
fold_at (Some (token.Keyword word.Sum)) = Some fold.Sum
fold_at (Some (token.Keyword word.Min)) = Some fold.Min
fold_at (Some (token.Keyword word.Max)) = Some fold.Max
fold_at _ = None
