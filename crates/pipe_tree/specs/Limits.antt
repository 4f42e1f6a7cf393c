-- How many of each thing a text may have, and how large its numbers may be.
use Rattle.std.specs.Prelude.{ℕ, ◌+◌, Bool, true, false, nat_lt, nat_le, List, [], ◌∷◌, map, Option, Some, None, if◌then◌else◌}
use Rattle.pipe_tokens.specs.declared.token.Token.{Token}
use Rattle.pipe_tokens.specs.declared.token.Token.TheVariants as token
use Rattle.pipe_tree.specs.declared.limits.Role.{Role}
use Rattle.pipe_tree.specs.declared.limits.Role.TheVariants.{Plain, Node, Stage, Param, Table, Function, Case}
use Rattle.pipe_tree.specs.declared.limits.TextCounts.{TextCounts}

-- bytes of a text
abbrev pub most_bytes : ℕ
most_bytes = 65536

-- levels of an expression that are open at once
abbrev pub most_levels : ℕ
most_levels = 64

-- the names that crates above use for the role that counts nothing, and for the counts
abbrev pub plain : Role
plain = Plain

abbrev pub CountsSoFar : Type 0
CountsSoFar = TextCounts

-- The counts with one more, unless that exceeds its limit: 4,096 nodes of expressions, 64 stages, 64 parameters, 16 tables, and
-- 16 cases in each function.
abbrev pub counted : Role → TextCounts → Option TextCounts
counted Plain c = Some c
counted Node c = if nat_lt c.nodes 4096 then Some (record c { nodes = c.nodes + 1 }) else None
counted Stage c = if nat_lt c.stages 64 then Some (record c { stages = c.stages + 1 }) else None
counted Param c = if nat_lt c.params 64 then Some (record c { params = c.params + 1 }) else None
counted Table c = if nat_lt c.tables 16 then Some (record c { tables = c.tables + 1 }) else None
counted Function c = Some (record c { cases = 0 })
counted Case c = if nat_lt c.cases 16 then Some (record c { cases = c.cases + 1 }) else None

-- a token of a text, and what it counts as
pub record Tagged : Type 0 where
  pub token : Token
  pub role : Role

-- the tokens alone
abbrev pub untagged : List Tagged → List Token
untagged text = map (λ t. t.token) text

abbrev pub is_number : Token → Bool
is_number (token.Int n) = true
is_number token.TooBig = true
is_number _ = false

-- no lexical fault, and no number above 2147483647
abbrev pub fits : Token → Bool
fits (token.Int n) = nat_le n 2147483647
fits token.TooBig = false
fits token.Bad = false
fits token.NotAscii = false
fits _ = true

-- the counts after one more token, unless it exceeds a limit
abbrev pub counted_next : Option TextCounts → Tagged → Option TextCounts
counted_next None t = None
counted_next (Some c) t = if fits t.token then counted t.role c else None

-- the counts after a text, unless it exceeds a limit
abbrev pub counted_all : Option TextCounts → List Tagged → Option TextCounts
counted_all counts [] = counts
counted_all counts (t ∷ text) = counted_all (counted_next counts t) text

abbrev pub none_yet : TextCounts
none_yet = record { nodes = 0; stages = 0; params = 0; tables = 0; cases = 0 }
