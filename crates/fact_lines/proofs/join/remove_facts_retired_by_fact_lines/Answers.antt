use Rattle.std.proofs.Common.{not, rules}
use Rattle.std.proofs.lemmas.Fn.{filter_same}
use Rattle.tile_fact.specs.declared.fact.Fact.{Fact}
use Rattle.tile_fact.specs.FactFile.{is_retired}
use Rattle.fact_lines.proofs.join.remove_facts_retired_by_fact_lines.Goals as goal

pub returns : goal.returns
returns c = λ strict.
    filter_same _ (λ (fact : Fact). not (is_retired c.args.jobs.now fact)) _ (λ fact b f' k. search (rules, strict)) _ _
    c.retain.ensures.filtered
