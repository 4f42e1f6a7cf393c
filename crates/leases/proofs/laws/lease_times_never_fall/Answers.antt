use Rattle.leases.proofs.LegalHistories.{legal_is_kept}
use Rattle.leases.proofs.laws.lease_times_never_fall.Goals as goal

pub returns-clause-rises : goal.returns-clause-rises
returns-clause-rises c = λ h t legal. (legal_is_kept h t legal).rising

pub returns-clause-last : goal.returns-clause-last
returns-clause-last c = λ h t legal. (legal_is_kept h t legal).times
