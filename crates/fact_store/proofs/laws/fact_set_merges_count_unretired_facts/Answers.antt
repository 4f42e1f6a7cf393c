use Rattle.fact_store.proofs.MergeCounts.{new_and_retired}
use Rattle.fact_store.proofs.laws.fact_set_merges_count_unretired_facts.Goals as goal

pub returns : goal.returns
returns c = new_and_retired
