use Rattle.std.proofs.Common.{◌≡◌, ◌∙◌, ap}
use Rattle.identity.specs.declared.job_ids.JobId.{JobId}
use Rattle.identity.specs.Keys.{ids_in, ids_cmp}
use Rattle.identity.specs.declared.key.Key.{Key}
use Rattle.std.specs.List.{list_any}
use Rattle.std.specs.Ordering.{eq_by_cmp}
use Rattle.tile_fact.proofs.PairLaws.{ids_order}
use Rattle.fact_lines.proofs.AmongLaws.{searched_for}
use Rattle.fact_lines.proofs.join.is_fact_retired_by_fact_lines.Goals as goal

pub returns : goal.returns
returns c = λ strict.
    let wanted : c.from_key.result ≡ ids_in c.args.fact.now.key = c.from_key.ensures ∙ ap (λ (k : Key). ids_in k) c.key.ensures in
    c.is_ok.ensures.value
    ∙ searched_for ids_cmp ids_order c.args.jobs.now c.from_key.result c.binary_search.result strict c.binary_search.ensures.bound
    c.binary_search.ensures.position
    ∙ ap (λ (i : JobId). list_any (eq_by_cmp ids_cmp i) c.args.jobs.now) wanted
