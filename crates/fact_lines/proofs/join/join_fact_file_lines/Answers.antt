use Rattle.std.proofs.Common.{rules}
use Rattle.std.specs.declared.cmp.Ordering.{Ordering}
use Rattle.identity.specs.contracts.job_ids.JobIdOrd.TheImpl as ids
use Rattle.identity.specs.declared.job_ids.JobId.{JobId}
use Rattle.identity.specs.Keys.{ids_cmp}
use Rattle.tile_fact.specs.contracts.fact.FactOrd.TheImpl as order
use Rattle.tile_fact.specs.declared.fact.Fact.{Fact}
use Rattle.tile_fact.specs.Order.{fact_cmp}
use Rattle.fact_lines.proofs.SortedLaws.{is_join, sorted_as}
use Rattle.fact_lines.proofs.join.join_fact_file_lines.Goals as goal

pub returns-clause-found : goal.returns-clause-found
unfolding fact_cmp
returns-clause-found c =
    let by_ids : JobId → JobId → Ordering = λ a b. ids.ghosts.cmp a b in
    let by_order : Fact → Fact → Ordering = λ a b. order.ghosts.cmp a b in
    let jobs =
    sorted_as by_ids ids_cmp (λ a b. search rules) _ c.sort_without_repeats.new.items.items c.sort_without_repeats.ensures.sorted c.sort_without_repeats.ensures.kept
    c.sort_without_repeats.ensures.none_new in
    let facts =
    sorted_as by_order fact_cmp (λ a b. search rules) _ c.sort_without_repeats-2.new.items.items c.sort_without_repeats-2.ensures.sorted
    c.sort_without_repeats-2.ensures.kept c.sort_without_repeats-2.ensures.none_new in
    let left = rw c.deref.ensures.value at c.remove_facts_retired_by_fact_lines.ensures in
    is_join c.args.text.now _ c.sort_without_repeats.new.items.items _ c.sort_without_repeats-2.new.items.items c.remove_facts_retired_by_fact_lines.new.facts.items
    c.in_ok-retired.ensures.found jobs facts (left jobs.strict)
