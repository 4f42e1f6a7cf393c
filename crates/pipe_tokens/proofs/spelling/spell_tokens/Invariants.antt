use Rattle.std.proofs.Common.{◌≡◌, ◌++◌, drop}
use Rattle.pipe_tokens.specs.Spelling.{blank_behind, spelling}
use Rattle.pipe_tokens.proofs.spelling.spell_tokens.Given as goal

abbrev pub invariant-loop-token : goal.invariant-loop-token
invariant-loop-token l =
    l.bytes.items ++ (blank_behind l.behind_word (drop l.token-index l.tokens) ++ spelling (drop l.token-index l.tokens))
    ≡ spelling l.tokens
