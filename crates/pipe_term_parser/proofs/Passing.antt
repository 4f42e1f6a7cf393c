-- What is ahead is a token, so passing it leaves fewer.
use Rattle.std.proofs.Common.{Bool, true, ◌≡◌, ◌<◌, List, [], ◌∷◌, length, Some, arith}
use Rattle.pipe_tokens.specs.declared.token.Token.{Token}
use Rattle.pipe_tokens.specs.declared.token.Punct.{Punct}
use Rattle.pipe_tokens.specs.declared.token.Keyword.{Keyword}
use Rattle.pipe_tree.specs.declared.ahead.ProductOp.{ProductOp}
use Rattle.pipe_tree.specs.Tokens.{head, tail}
use Rattle.pipe_tree.specs.Operators.{sign_at, factor_at}
use Rattle.pipe_tree.specs.Lookahead.{is_mark_at, is_word_at}

pub mark_passes : (m : Punct) (rest : List Token) → is_mark_at m (head rest) ≡ true → length (tail rest) < length rest
mark_passes m [] e = absurd cc
mark_passes m (t ∷ ts) e = omega arith

pub word_passes : (w : Keyword) (rest : List Token) → is_word_at w (head rest) ≡ true → length (tail rest) < length rest
word_passes w [] e = absurd cc
word_passes w (t ∷ ts) e = omega arith

pub sign_passes : (b : Bool) (rest : List Token) → sign_at (head rest) ≡ Some b → length (tail rest) < length rest
sign_passes b [] e = absurd cc
sign_passes b (t ∷ ts) e = omega arith

pub factor_passes : (f : ProductOp) (rest : List Token) → factor_at (head rest) ≡ Some f → length (tail rest) < length rest
factor_passes f [] e = absurd cc
factor_passes f (t ∷ ts) e = omega arith
