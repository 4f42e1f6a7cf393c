-- What the token ahead begins. Only the contracts of functions inside the parser cite this.
use Rattle.std.specs.Prelude.{Bool, true, false, Option, Some, None}
use denote.Enum.Bare.{sameb}
use Rattle.pipe_tokens.specs.contracts.token.Punct as mark_type
use Rattle.pipe_tokens.specs.contracts.token.Keyword as word_type
use Rattle.pipe_tokens.specs.declared.token.Punct.{Punct}
use Rattle.pipe_tokens.specs.declared.token.Keyword.{Keyword}
use Rattle.pipe_tokens.specs.declared.token.Token.{Token}
use Rattle.pipe_tokens.specs.declared.token.Token.TheVariants as token
use Rattle.pipe_tokens.specs.declared.token.Punct.TheVariants as mark
use Rattle.pipe_tokens.specs.declared.token.Keyword.TheVariants as word
use Rattle.pipe_tree.specs.declared.ahead.CallOp.{CallOp}
use Rattle.pipe_tree.specs.declared.ahead.UnaryStart.{UnaryStart}
use Rattle.pipe_tree.specs.declared.ahead.UnaryStart.TheVariants as start
use Rattle.pipe_tree.specs.declared.ahead.Opening.TheVariants as opening
use Rattle.pipe_tree.specs.declared.ahead.ItemStart.{ItemStart}
use Rattle.pipe_tree.specs.declared.ahead.ItemStart.TheVariants as item
use Rattle.pipe_tree.specs.Operators.{call_at}

abbrev pub is_mark_at : Punct → Option Token → Bool
is_mark_at m (Some (token.Punct n)) = sameb mark_type.the_type n m
is_mark_at m _ = false

abbrev pub is_word_at : Keyword → Option Token → Bool
is_word_at w (Some (token.Keyword v)) = sameb word_type.the_type v w
is_word_at w _ = false

abbrev pub is_number_at : Option Token → Bool
is_number_at (Some (token.Int n)) = true
is_number_at (Some token.TooBig) = true
is_number_at _ = false

-- what the token begins; a word that calls an operator is tested first
abbrev pub start_by : Option CallOp → Option Token → UnaryStart
start_by (Some c) h = start.Opening opening.Call
start_by None (Some (token.Int n)) = start.Number
start_by None (Some token.TooBig) = start.Number
start_by None (Some (token.Name x)) = start.Name
start_by None (Some (token.Punct mark.Minus)) = start.Opening opening.Minus
start_by None (Some (token.Punct mark.OpenRound)) = start.Opening opening.Group
start_by None (Some (token.Keyword word.Select)) = start.Opening opening.Select
start_by None (Some (token.Keyword word.Stencil)) = start.Stencil
start_by None _ = start.Nothing

abbrev pub start_at : Option Token → UnaryStart
start_at h = start_by (call_at h) h

abbrev pub item_at : Option Token → ItemStart
item_at (Some (token.Keyword word.Param)) = item.Param
item_at (Some (token.Keyword word.Table)) = item.Table
item_at (Some (token.Keyword word.Func)) = item.Func
item_at (Some (token.Keyword word.Accum)) = item.Accum
item_at (Some (token.Keyword word.Output)) = item.Output
item_at _ = item.Nothing
