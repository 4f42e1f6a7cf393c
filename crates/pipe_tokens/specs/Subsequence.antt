-- Lists of tokens from which some are omitted.
use Rattle.std.specs.Prelude.{List, [], ◌∷◌, ◌++◌}
use Rattle.pipe_tokens.specs.declared.token.Token.{Token}

-- the first list is the second with some tokens omitted
pub data IsSubsequence : List Token → List Token → Type 0 where
  nothing : IsSubsequence [] []
  keeps : (token : Token) (few many : List Token) → IsSubsequence few many → IsSubsequence (token ∷ few) (token ∷ many)
  leaves_out : (token : Token) (few many : List Token) → IsSubsequence few many → IsSubsequence few (token ∷ many)

pub IsSubsequence-refl : (tokens : List Token) → IsSubsequence tokens tokens
IsSubsequence-refl [] = nothing
IsSubsequence-refl (token ∷ tokens) = keeps token tokens tokens (IsSubsequence-refl tokens)

pub IsSubsequence-none : (tokens : List Token) → IsSubsequence [] tokens
IsSubsequence-none [] = nothing
IsSubsequence-none (token ∷ tokens) = leaves_out token [] tokens (IsSubsequence-none tokens)

pub IsSubsequence-append : (few many few' many' : List Token) → IsSubsequence few many → IsSubsequence few' many'
    → IsSubsequence (few ++ few') (many ++ many')
IsSubsequence-append _ _ few' many' nothing h = h
IsSubsequence-append _ _ few' many' (keeps token few many first) h =
    keeps token (few ++ few') (many ++ many') (IsSubsequence-append few many few' many' first h)
IsSubsequence-append _ _ few' many' (leaves_out token few many first) h =
    leaves_out token (few ++ few') (many ++ many') (IsSubsequence-append few many few' many' first h)
