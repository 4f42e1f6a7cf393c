use Rattle.pipe_tokens.proofs.Only.{only_tokens, only_starts}
use Rattle.pipe_tokens.proofs.lexer.texts_have_one_token_list.Goals as goal

pub returns-clause-tokens : goal.returns-clause-tokens
returns-clause-tokens c = only_tokens

pub returns-clause-starts : goal.returns-clause-starts
returns-clause-starts c = only_starts
