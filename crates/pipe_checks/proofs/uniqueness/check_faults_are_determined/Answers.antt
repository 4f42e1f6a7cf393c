-- The first fault of each kind is one, and no two kinds stand together.
use Rattle.pipe_checks.proofs.CheckFaultsAreDetermined.{one_fault, no_fault}
use Rattle.pipe_checks.proofs.uniqueness.check_faults_are_determined.Goals as goal

pub returns-clause-one : goal.returns-clause-one
returns-clause-one c = one_fault

pub returns-clause-none : goal.returns-clause-none
returns-clause-none c = no_fault
