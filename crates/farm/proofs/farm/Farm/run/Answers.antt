use Rattle.std.proofs.Common.{◌≡◌, ◌∙◌, Some, All, ap, sym, subst, length}
use Rattle.std.specs.Option.{option_map}
use Rattle.std.specs.Prelude.{List, slice_get}
use Rattle.live_nodes.specs.declared.event.Event.{Event}
use Rattle.catalog.specs.Entries.{Entry, entry_of, ids_of}
use Rattle.fact_store.specs.Facts.{FactSet}
use Rattle.farm_answers.specs.Answering.{missing_work}
use Rattle.held_facts.specs.Facts.{lent}
use Rattle.held_facts.specs.HeldFacts.{HoldsTrueFacts}
use Rattle.identity.specs.declared.key.Key.{Key}
use Rattle.overlap_tiles.specs.Work.{work_keys}
use Rattle.farm.specs.WorkerRuns.{AreFarmHistories, farm_of}
use Rattle.farm.specs.Reports.{IsSoundEnd, all_held}
use Rattle.farm.proofs.Ends.{true_gathered}
use Rattle.farm.proofs.Gathering.{missing_work_of_lent}
use Rattle.farm.proofs.farm.Farm.run.Goals as goal

pub complete_farm_answer-requires-clause-is_true : goal.complete_farm_answer-requires-clause-is_true
complete_farm_answer-requires-clause-is_true g c =
    let same : c.deref-3.result.now ≡ c.in_ok-closed.closed.items = c.deref-3.ensures.value in
    subst (HoldsTrueFacts c.args.catalog.now) (sym c.in_ok-held.ensures)
    (true_gathered c.args.catalog.now c.deref-3.result.now c.deref-2.result.now
    (subst (All (IsSoundEnd c.args.catalog.now)) (sym same) c.in_ok-closed.ensures.sound))

pub returns-clause-by_caller : goal.returns-clause-by_caller
returns-clause-by_caller g c =
    let jobs = c.args.catalog.now in
    let inlining = c.args.schedule.now.inlining in
    let entry = entry_of c.in-Some.asked.now in
    let there : slice_get jobs c.args.job ≡ Some entry =
    sym c.job.ensures.job ∙ ap (option_map (λ job. entry_of job.now)) c.in-Some.is in
    let keys : c.deref-2.result.now ≡ work_keys (ids_of entry).program entry.pipeline inlining =
    c.deref-2.ensures.value ∙ c.in_ok-keys.ensures in
    let ends = c.deref-3.result.now in
    c.in_ok-done.ensures.made
    ∙ ap (λ (s : FactSet). length (missing_work jobs c.args.job inlining s))
    (c.in_ok-held.ensures ∙ ap (λ (ks : List Key). lent (all_held ends) ks) keys)
    ∙ ap length (missing_work_of_lent jobs c.args.job entry inlining (all_held ends) there)
    ∙ ap (λ (hs : List (List Event)). length (missing_work jobs c.args.job inlining (all_held hs))) c.deref-3.ensures.value

pub returns-clause-worked : goal.returns-clause-worked
returns-clause-worked g c wanted place =
    let jobs = c.args.catalog.now in
    let inlining = c.args.schedule.now.inlining in
    let setup = c.args.setup.now in
    let entry = entry_of c.in-Some.asked.now in
    let there : slice_get jobs c.args.job ≡ Some entry =
    sym c.job.ensures.job ∙ ap (option_map (λ job. entry_of job.now)) c.in-Some.is in
    let same : entry ≡ wanted = cc in
    let keys : c.deref.result.now ≡ work_keys (ids_of entry).program entry.pipeline inlining =
    c.deref.ensures.value ∙ c.in_ok-keys.ensures in
    let closed = c.in_ok-closed.closed.items in
    subst (λ (e : Entry). AreFarmHistories jobs (farm_of e inlining setup) (work_keys (ids_of e).program e.pipeline inlining) setup closed) same
    (subst (λ (ks : List Key). AreFarmHistories jobs (farm_of entry inlining setup) ks setup closed) keys c.in_ok-closed.ensures.worked)
