use Rattle.std.specs.Int.{w32, w64}
use Rattle.domains.proofs.Wrapping.{wrapped_is, wrapped_only_32, wrapped_only_64}
use Rattle.domains.proofs.laws.wrapping_gives_the_one_congruent_number.Goals as goal

pub returns-clause-at_32 : goal.returns-clause-at_32
returns-clause-at_32 c = λ n. wrapped_is w32 n

pub returns-clause-only_at_32 : goal.returns-clause-only_at_32
returns-clause-only_at_32 c = wrapped_only_32

pub returns-clause-at_64 : goal.returns-clause-at_64
returns-clause-at_64 c = λ n. wrapped_is w64 n

pub returns-clause-only_at_64 : goal.returns-clause-only_at_64
returns-clause-only_at_64 c = wrapped_only_64
