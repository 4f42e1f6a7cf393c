use Rattle.pipe_tokens.proofs.Respelled.{spelling_comes_back}
use Rattle.pipe_tokens.proofs.spelling.spelled_tokens_come_back.Goals as goal

pub returns : goal.returns
returns c = spelling_comes_back
