use Rattle.std.proofs.Common.{arith, rules}
use Rattle.std.proofs.lemmas.Int.{ints}
use Rattle.pipe_bounds.proofs.domain.build_interval_within_limits.Goals as goal

pub returns : goal.returns
returns c =
    record { lo = search rules; hi = search rules; ordered = omega (arith, ints); least = omega (arith, ints); most = omega (arith, ints) }
