use Rattle.std.proofs.Common.{◌≡◌, ◌<◌, List, ℕ, length, sym, subst, vec_len, arith, Ok, Err, Result, All}
use Rattle.std.specs.Prelude.{IfOk}
use Rattle.std.specs.declared.alloc.AllocError.{AllocError}
use Rattle.std.specs.List.Sorted.{IsStrictlyIncreasing}
use Rattle.pipe_tokens.specs.declared.token.Token.{Token}
use Rattle.pipe_tokens.specs.declared.lexer.TokenList.{TokenList}
use Rattle.pipe_tokens.specs.Lexing.{tokens_of, starts_of}
use Rattle.pipe_tokens.specs.Cutting.{CutsInto}
use Rattle.pipe_tokens.proofs.Cuts.{cuts_into}
use Rattle.pipe_tokens.proofs.Rising.{starts_increase, starts_within, as_many_starts}
use Rattle.pipe_tokens.proofs.lexer.lex.Goals as goal

-- what holds of the tokens and starts of a text holds of those that are found
found : (P : List Token → List ℕ → Type 0) (text : List ℕ) (r : Result TokenList AllocError) → P (tokens_of text) (starts_of text)
    → IfOk r (λ lexed. lexed.tokens.items ≡ tokens_of text) → IfOk r (λ lexed. lexed.starts.items ≡ starts_of text)
    → IfOk r (λ lexed. P lexed.tokens.items lexed.starts.items)
found P text (Ok lexed) h tokens starts =
    subst (λ (ts : List Token). P ts lexed.starts.items) (sym tokens) (subst (P (tokens_of text)) (sym starts) h)
found P text (Err e) h tokens starts = tt

lengths : (r : Result TokenList AllocError) → IfOk r (λ lexed. length lexed.starts.items ≡ length lexed.tokens.items)
    → IfOk r (λ lexed. vec_len lexed.starts ≡ vec_len lexed.tokens)
lengths (Ok lexed) h = omega (arith, h, lexed.starts.ok.0, lexed.tokens.ok.0)
lengths (Err e) h = tt

pub returns-clause-longest : goal.returns-clause-longest
returns-clause-longest c =
    found (CutsInto 0 c.args.text.now) c.args.text.now c.lex_text_piece_by_piece.result (cuts_into c.args.text.now) c.lex_text_piece_by_piece.ensures.tokens c.lex_text_piece_by_piece.ensures.starts

pub returns-clause-as_many : goal.returns-clause-as_many
returns-clause-as_many c =
    lengths c.lex_text_piece_by_piece.result (found (λ (ts : List Token) (ss : List ℕ). length ss ≡ length ts) c.args.text.now c.lex_text_piece_by_piece.result
    (as_many_starts c.args.text.now) c.lex_text_piece_by_piece.ensures.tokens c.lex_text_piece_by_piece.ensures.starts)

pub returns-clause-rising : goal.returns-clause-rising
returns-clause-rising c =
    found (λ (ts : List Token) (ss : List ℕ). IsStrictlyIncreasing ss) c.args.text.now c.lex_text_piece_by_piece.result (starts_increase c.args.text.now)
    c.lex_text_piece_by_piece.ensures.tokens c.lex_text_piece_by_piece.ensures.starts

pub returns-clause-within : goal.returns-clause-within
returns-clause-within c =
    found (λ (ts : List Token) (ss : List ℕ). All (λ start. start < length c.args.text.now) ss) c.args.text.now c.lex_text_piece_by_piece.result
    (starts_within c.args.text.now) c.lex_text_piece_by_piece.ensures.tokens c.lex_text_piece_by_piece.ensures.starts
