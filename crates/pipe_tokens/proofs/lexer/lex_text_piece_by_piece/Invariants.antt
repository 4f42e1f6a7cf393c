use Rattle.std.proofs.Common.{◌≡◌, ◌≤◌, ◌-◌, ◌++◌, length, drop, map}
use Rattle.pipe_tokens.specs.Lexing.{lexemes_from, tokens_of, starts_of}
use Rattle.pipe_tokens.proofs.lexer.lex_text_piece_by_piece.Given as goal

abbrev pub invariant-loop-at : goal.invariant-loop-at
invariant-loop-at l = record {
  within : l.at ≤ length l.text;
  tokens : l.tokens.items ++ map (λ lexeme. lexeme.token) (lexemes_from l.at 0 (drop l.at l.text)) ≡ tokens_of l.text;
  starts : l.starts.items ++ map (λ lexeme. lexeme.start) (lexemes_from l.at 0 (drop l.at l.text)) ≡ starts_of l.text;
}

abbrev pub decreases-loop-at : goal.decreases-loop-at
decreases-loop-at l = length l.text - l.at
