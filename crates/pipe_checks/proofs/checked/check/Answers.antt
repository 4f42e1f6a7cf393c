use Rattle.std.proofs.Common.{subst}
use Rattle.pipe_tree.specs.Tree.{declarations}
use Rattle.pipe_checks.specs.Checking.{IsFault}
use Rattle.pipe_checks.proofs.checked.check.Goals as goal

pub returns-in-Err-clause-fault : goal.returns-in-Err-clause-fault
returns-in-Err-clause-fault c = subst (λ xs. IsFault (declarations xs) c.in-Err.fault) c.items.ensures c.in-Err.ensures.err
