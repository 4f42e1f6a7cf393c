use Rattle.std.proofs.Common.{◌≡◌, ◌++◌, ◌∷◌, [], length, sym, ap, ◌∙◌, arith}
use Rattle.std.proofs.lemmas.Slice.{between_to_end}
use Rattle.pipe_tokens.specs.Lexing.{Lexeme, piece_of}
use Rattle.pipe_tokens.proofs.Steps.{Turn, turn, passes_gap, takes_token, ends_at_fault, is_ended}
use Rattle.pipe_tokens.proofs.lexer.lex_text_piece_by_piece.Goals as goal
use Rattle.pipe_tokens.proofs.lexer.lex_text_piece_by_piece.Goals.{After-lex_longest_piece-token, in-Some+in_ok-push+in_ok-push-2+else-is_fault, in_default}

-- what `lex_longest_piece` answered at this turn
this_turn : (c : After-lex_longest_piece-token) → Turn c.args.text.now c.loop-at.at c.lex_longest_piece-token.result
this_turn c =
    turn c.args.text.now c.loop-at.at c.lex_longest_piece-token.result c.loop-at-test.true
    (c.lex_longest_piece-token.ensures.piece ∙ ap piece_of (between_to_end c.args.text.now c.loop-at.at (length c.args.text.now) (omega arith)))

pub returns-then-is_fault-clause-tokens : goal.returns-then-is_fault-clause-tokens
returns-then-is_fault-clause-tokens c =
    let t = this_turn (goal.at.returns-then-is_fault-clause-tokens c).After-lex_longest_piece-token in
    let total =
    ends_at_fault (λ (l : Lexeme). l.token) _ _ _ t c.loop-at.tokens.items _ c.loop-at.invariant.tokens c.in-Some.token c.in-Some.is
    (sym c.is_lexical_fault-is_fault.ensures ∙ c.if-is_fault.true) in
    c.in_ok-push.ensures.items ∙ total

pub returns-then-is_fault-clause-starts : goal.returns-then-is_fault-clause-starts
returns-then-is_fault-clause-starts c =
    let t = this_turn (goal.at.returns-then-is_fault-clause-starts c).After-lex_longest_piece-token in
    let total =
    ends_at_fault (λ (l : Lexeme). l.start) _ _ _ t c.loop-at.starts.items _ c.loop-at.invariant.starts c.in-Some.token c.in-Some.is
    (sym c.is_lexical_fault-is_fault.ensures ∙ c.if-is_fault.true) in
    c.in_ok-push-2.ensures.items ∙ total

pub loop-at-smaller : goal.loop-at-smaller
loop-at-smaller c =
    let t = this_turn (goal.at.loop-at-smaller c).After-lex_longest_piece-token in
    omega (arith, t.some, t.within)

pub overflow_add-at : goal.overflow_add-at
overflow_add-at c =
    let t = this_turn (goal.at.overflow_add-at c).After-lex_longest_piece-token in
    omega (arith, t.within)

pub loop-at-preserved : goal.loop-at-preserved
loop-at-preserved c =
    let t = this_turn (goal.at.loop-at-preserved c).After-lex_longest_piece-token in
    elim c.match-token.branch [
      | in-Some+in_ok-push+in_ok-push-2+else-is_fault w ↦
          let goes = sym w.is_lexical_fault-is_fault.ensures ∙ w.if-is_fault.false in
          let tokens : c.match-token.tokens.items ≡ c.loop-at.tokens.items ++ w.in-Some.token ∷ [] =
          rw w.tokens-is w.in_ok-push.ensures.items in
          let starts : c.match-token.starts.items ≡ c.loop-at.starts.items ++ c.loop-at.at ∷ [] =
          rw w.starts-is w.in_ok-push-2.ensures.items in
          record {
            within = t.within;
            tokens =
                rw tokens (takes_token (λ (l : Lexeme). l.token) _ _ _ t c.loop-at.tokens.items _ c.loop-at.invariant.tokens w.in-Some.token
                w.in-Some.is goes);
            starts =
                rw starts (takes_token (λ (l : Lexeme). l.start) _ _ _ t c.loop-at.starts.items _ c.loop-at.invariant.starts w.in-Some.token
                w.in-Some.is goes);
          }
      | in_default w ↦ record {
        within = t.within;
        tokens =
            rw w.tokens-is
            (passes_gap (λ (l : Lexeme). l.token) _ _ _ t c.loop-at.tokens.items _ c.loop-at.invariant.tokens w.in_default.is);
        starts =
            rw w.starts-is
            (passes_gap (λ (l : Lexeme). l.start) _ _ _ t c.loop-at.starts.items _ c.loop-at.invariant.starts w.in_default.is);
      }
    ]

pub returns-clause-tokens : goal.returns-clause-tokens
returns-clause-tokens c =
    is_ended (λ (l : Lexeme). l.token) c.args.text.now c.loop-at.at c.loop-at.tokens.items _ c.loop-at-test.false c.loop-at.invariant.tokens

pub returns-clause-starts : goal.returns-clause-starts
returns-clause-starts c =
    is_ended (λ (l : Lexeme). l.start) c.args.text.now c.loop-at.at c.loop-at.starts.items _ c.loop-at-test.false c.loop-at.invariant.starts
