use Rattle.std.proofs.Common.{◌≡◌, Some, sym, ap, ◌∙◌, subst}
use Rattle.std.specs.Option.{option_map}
use Rattle.std.specs.Prelude.{slice_get}
use Rattle.catalog.specs.Entries.{entry_of}
use Rattle.farm_answers.proofs.LeftTiles.{holds_in_the_end, planned_left, planned_schedule}
use Rattle.farm_answers.specs.inside.Missing.{IsLeft}
use Rattle.farm_answers.proofs.completed.complete_farm_answer.Goals as goal

pub make_missing_facts-requires : goal.make_missing_facts-requires
make_missing_facts-requires c =
    let entry = entry_of c.in-Some.asked.now in
    let there : slice_get c.args.catalog.now c.args.job ≡ Some entry =
    sym c.job.ensures.job ∙ ap (option_map (λ job. entry_of job.now)) c.in-Some.is in
    subst (IsLeft c.args.catalog.now entry c.args.schedule.now.inlining c.args.held)
    (sym (c.deref.ensures.value ∙ c.in_ok-keys.ensures))
    (planned_left c.args.catalog.now c.args.job c.args.schedule.now entry c.args.held c.requires.planned there c.job.ensures.catalog
    c.job.ensures.jobs c.requires.is_true)

pub compose_answer-requires : goal.compose_answer-requires
compose_answer-requires c =
    let entry = entry_of c.in-Some.asked.now in
    let there : slice_get c.args.catalog.now c.args.job ≡ Some entry =
    sym c.job.ensures.job ∙ ap (option_map (λ job. entry_of job.now)) c.in-Some.is in
    holds_in_the_end c.args.catalog.now entry c.args.schedule.now c.in_ok-full.full
    (planned_schedule c.args.catalog.now c.args.job c.args.schedule.now entry c.requires.planned there) c.in_ok-full.ensures
