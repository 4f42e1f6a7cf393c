use Rattle.pipe_tokens.proofs.Shortest.{is_shortest, are_readable}
use Rattle.pipe_tokens.proofs.spelling.spelled_tokens_are_shortest.Goals as goal

pub returns-clause-shortest : goal.returns-clause-shortest
returns-clause-shortest c = is_shortest

pub returns-clause-readable : goal.returns-clause-readable
returns-clause-readable c = are_readable
