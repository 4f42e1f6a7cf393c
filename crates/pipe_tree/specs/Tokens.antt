-- Lists of tokens.
use Rattle.std.specs.Prelude.{List, [], ◌∷◌, Option, Some, None}
use Rattle.pipe_tokens.specs.declared.token.Token.{Token}

abbrev pub head : List Token → Option Token
head [] = None
head (t ∷ ts) = Some t

abbrev pub tail : List Token → List Token
tail [] = []
tail (t ∷ ts) = ts
