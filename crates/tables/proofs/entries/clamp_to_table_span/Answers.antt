use Rattle.std.proofs.Common.{arith, rules, ◌≤ℤ◌}
use Rattle.std.proofs.lemmas.Int.{ints, clamps}
use Rattle.tables.proofs.entries.clamp_to_table_span.Goals as goal

pub returns-clause-holds : goal.returns-clause-holds
returns-clause-holds c =
    let ordered : c.args.span.now.lo ≤ℤ c.args.span.now.hi = search rules in
    (omega (arith, ints, clamps), omega (arith, ints, clamps))
