use Rattle.std.proofs.Common.{sym, ◌∙◌, ap, length}
use Rattle.fact_store.proofs.TableLaws.{facts_of-tables}
use Rattle.fact_store.proofs.tables.TableFactsFactStore.count_facts_of_key.Goals as goal

pub returns : goal.returns
returns c =
    ap length (c.find_sorted_facts_of_key.ensures.table ∙ sym (facts_of-tables c.args.self.now.tables.entries c.args.key.now c.args.self.now.stand))
