use Rattle.std.proofs.Common.{◌≡◌, ◌++◌, ◌∙◌}
use Rattle.pipe_tokens.proofs.Spelt.{blank, with_blank, first_no_blank, next_no_blank, goes_on, is_done}
use Rattle.pipe_tokens.proofs.spelling.spell_tokens.Goals as goal
use Rattle.pipe_tokens.proofs.spelling.spell_tokens.Goals.{In_ok-push_token_bytes, then-behind_word+then-is_word+in_ok-push, else-behind_word}
use Rattle.pipe_tokens.proofs.spelling.spell_tokens.Goals.{else-behind_word-via-then-behind_word+else-is_word}
use Rattle.pipe_tokens.proofs.spelling.spell_tokens.Goals.{else-behind_word-via-else-behind_word}

-- the blank is there where it is needed
spaced : (c : In_ok-push_token_bytes)
    → c.if-behind_word.bytes.items ≡ c.loop-token.bytes.items ++ blank c.loop-token.behind_word c.is_word_or_number_token-is_word.result
spaced c =
    let before = c.loop-token.bytes.items in
    let behind_word = c.loop-token.behind_word in
    let is_word = c.is_word_or_number_token-is_word.result in
    elim c.if-behind_word.branch [
      | then-behind_word+then-is_word+in_ok-push w ↦ rw w.bytes-is
          (w.in_ok-push.ensures.items ∙ with_blank behind_word is_word before w.if-behind_word.true w.if-is_word.true)
      | else-behind_word w ↦ rw w.bytes-is (elim w.else-behind_word.branch [
        | else-behind_word-via-then-behind_word+else-is_word v ↦ next_no_blank behind_word is_word before v.if-is_word.false
        | else-behind_word-via-else-behind_word v ↦ first_no_blank behind_word is_word before v.if-behind_word.false
      ])
    ]

pub loop-token-preserved : goal.loop-token-preserved
loop-token-preserved c =
    goes_on c.args.tokens.now c.loop-token.token-index c.token-item.result c.loop-token.bytes.items c.if-behind_word.bytes.items
    c.push_token_bytes.new.bytes.items _ c.loop-token.behind_word c.is_word_or_number_token-is_word.result
    c.loop-token-test.true c.token-item.is c.is_word_or_number_token-is_word.ensures (spaced c) c.in_ok-push_token_bytes.ensures c.loop-token.invariant

pub returns : goal.returns
returns c =
    is_done c.args.tokens.now c.loop-token.token-index c.loop-token.bytes.items _ c.loop-token.behind_word c.loop-token-test.false
    c.loop-token.invariant
