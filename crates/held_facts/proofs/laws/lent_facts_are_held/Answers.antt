use Rattle.held_facts.proofs.LentLaws.{in_lent}
use Rattle.held_facts.proofs.laws.lent_facts_are_held.Goals as goal

pub returns : goal.returns
returns c = record { lent = in_lent }
