use Rattle.pipe_tokens.proofs.Fewer.{fewer_is_shorter}
use Rattle.pipe_tokens.proofs.spelling.fewer_tokens_are_no_longer.Goals as goal

pub returns : goal.returns
returns c = fewer_is_shorter
