use Rattle.farm.proofs.Ends.{true_loan_all}
use Rattle.farm.proofs.hand.WorkerSeat.lend_node_facts_of_keys.Goals as goal

pub returns-clause-is_true : goal.returns-clause-is_true
returns-clause-is_true g c = true_loan_all g.C.NamedCatalog.catalog c.args.keys.now c.in_ok-loan.loan.facts.items c.in_ok-loan.ensures.truth
