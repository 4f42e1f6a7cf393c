use Rattle.std.proofs.Common.{[], ◌∷◌, ◌++◌, ap, map, subst, sym, ◌∙◌}
use Rattle.std.specs.Prelude.{IfSome}
use Rattle.std.proofs.lemmas.List.{map-append}
use Rattle.accumulators.specs.Answers.{gathered}
use Rattle.accumulators.specs.Gatherings.{HasTaken}
use Rattle.job.specs.Kept.{pipeline_in, program_id_in}
use Rattle.held_facts.specs.HeldAnswers.{held_partials}
use Rattle.held_facts.proofs.HeldPartials.{bins_wanted}
use Rattle.held_facts.proofs.Judged.{stage_of_all}
use Rattle.held_facts.proofs.held.HeldJobFacts.push_total_if_accumulator_stage.Goals as goal

pub accumulate_stage_partials-requires-clause-ready : goal.accumulate_stage_partials-requires-clause-ready
accumulate_stage_partials-requires-clause-ready g c =
    let job = pipeline_in c.args.self.now.job.now in
    let begun = subst (λ o. IfSome o (HasTaken job c.args.stage [])) c.in-Some.is c.in_ok-gathering.ensures.some in
    stage_of_all c.args.self.now.state.now (program_id_in c.args.self.now.job.now) job c.args.stage c.requires
    (bins_wanted job c.args.stage c.in-Some.gathering.span begun.span)

pub returns-in_ok-push : goal.returns-in_ok-push
returns-in_ok-push g c =
    let job = pipeline_in c.args.self.now.job.now in
    let partials = held_partials c.args.self.now.state.now (program_id_in c.args.self.now.job.now) job c.args.stage in
    let begun = subst (λ o. IfSome o (HasTaken job c.args.stage [])) c.in-Some.is c.in_ok-gathering.ensures.some in
    let total = c.into_total.ensures.taken job c.args.stage partials (c.accumulate_stage_partials.ensures.taken [] begun) in
    ap (map gathered) c.in_ok-push.ensures.items
    ∙ map-append gathered c.args.totals.now.items (c.into_total.result ∷ [])
    ∙ ap (λ xs. map gathered c.args.totals.now.items ++ xs) (sym total)
