use Rattle.std.specs.Char.{is_ascii_digit}
use Rattle.pipe_tokens.proofs.Runs.{AllPass-run}
use Rattle.pipe_tokens.proofs.piece.lex_digits.Goals as goal

pub convert_digits_to_token-requires : goal.convert_digits_to_token-requires
convert_digits_to_token-requires c = AllPass-run is_ascii_digit c.args.text.now c.count_leading_token_digits-len.result c.count_leading_token_digits-len.ensures.len
