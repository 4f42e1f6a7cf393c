use Rattle.std.proofs.Common.{length, subst, sym, ap, ◌∙◌, refl}
use Rattle.std.proofs.lemmas.Option.{slice_get_read, slice_get_within}
use Rattle.catalog.specs.Entries.{StandsAt, ids_in}
use Rattle.identity.specs.declared.job_ids.JobId.{JobId}
use Rattle.domains.proofs.Places.{ok_then}
use Rattle.fact_audit.proofs.Serving.{stages_for, serves, by_stages}
use Rattle.fact_audit.proofs.several.judge_fact_among_jobs.Goals as goal

pub bounds-known-index : goal.bounds-known-index
bounds-known-index c =
    let known = c.args.known.now in
    let has =
    stages_for c.args.catalog.now known c.args.fact.now c.in-Some.index c.from_key.result c.requires
    (c.from_key.ensures ∙ ap ids_in c.key.ensures)
    c.in-Some.ensures.some in
    slice_get_within known c.in-Some.index has.stages has.there

pub judge_fact_by_stages-requires : goal.judge_fact_by_stages-requires
judge_fact_by_stages-requires c =
    let known = c.args.known.now in
    let i = c.in-Some.index in
    let has =
    stages_for c.args.catalog.now known c.args.fact.now i c.from_key.result c.requires (c.from_key.ensures ∙ ap ids_in c.key.ensures)
    c.in-Some.ensures.some in
    let there =
    slice_get_read known (length known) i c.index-known-index.result refl (slice_get_within known i has.stages has.there)
    c.index-known-index.is in
    (serves c.args.catalog.now known c.args.fact.now i c.index-known-index.result has there).1

pub returns-in-Some : goal.returns-in-Some
returns-in-Some c =
    let known = c.args.known.now in
    let i = c.in-Some.index in
    let same = c.from_key.ensures ∙ ap ids_in c.key.ensures in
    let has = stages_for c.args.catalog.now known c.args.fact.now i c.from_key.result c.requires same c.in-Some.ensures.some in
    let there =
    slice_get_read known (length known) i c.index-known-index.result refl (slice_get_within known i has.stages has.there)
    c.index-known-index.is in
    ok_then c.judge_fact_by_stages.result c.judge_fact_by_stages.ensures (λ v says.
    by_stages c.args.catalog.now known c.args.fact.now i c.from_key.result c.index-known-index.result v c.in-Some.ensures.catalog
    c.requires same c.in-Some.ensures.some there says)

pub returns-in-None : goal.returns-in-None
returns-in-None c =
    λ i at. c.in-None.ensures.none i
    (subst (λ (ids : JobId). StandsAt c.args.catalog.now ids i) (sym (c.from_key.ensures ∙ ap ids_in c.key.ensures)) at)
