use Rattle.std.proofs.Common.{sym, ◌∙◌}
use Rattle.held_facts.proofs.ListLaws.{none_removed}
use Rattle.held_facts.proofs.facts.HeldFacts.remove_facts_of_jobs.Goals as goal

pub returns-else-not-is_empty : goal.returns-else-not-is_empty
returns-else-not-is_empty g c = none_removed c.args.self.now c.args.jobs.now (sym c.if-not-is_empty.false ∙ c.is_empty.ensures)
