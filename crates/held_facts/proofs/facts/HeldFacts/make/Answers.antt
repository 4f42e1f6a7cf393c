use Rattle.std.proofs.Common.{◌≡◌, ℕ, None, List, sym, ap, ◌∙◌, subst}
use Rattle.std.specs.List.{flat_map}
use Rattle.std.specs.Prelude.{Contains}
use Rattle.std.proofs.lemmas.Result.{err_from_is_err_and}
use Rattle.catalog.specs.Entries.{entry_of}
use Rattle.fact_audit.specs.TrueFacts.{IsTrueFact}
use Rattle.identity.specs.declared.key.Key.{Key}
use Rattle.job.specs.Kept.{pipeline_in, program_id_in}
use Rattle.tile_boxes.specs.Targets.{target_over}
use Rattle.overlap_tiles.specs.Needs.{needed_keys}
use Rattle.overlap_tiles.specs.Plans.{IsTilePlan}
use Rattle.tile_fact.specs.declared.fact.Fact.{Fact}
use Rattle.tile_sources.specs.KnownTiles.{AreTrue, AreWhole}
use Rattle.one_tile.specs.Runs.{first_missing}
use Rattle.held_facts.specs.Making.{tiles_in, needed_tiles, IsMade}
use Rattle.held_facts.specs.Facts.{facts_of}
use Rattle.held_facts.specs.inside.Holding.{TilesRise}
use Rattle.held_facts.specs.inside.Needing.{AreReady, IsNeedsFault}
use Rattle.held_facts.proofs.MadeFacts.{stopped, made, needed_true, true_fact}
use Rattle.held_facts.proofs.ReadyNeeds.{needed_whole, all_told, needed_function}
use Rattle.held_facts.proofs.TilesInOrder.{needed_rise}
use Rattle.held_facts.proofs.ToldTiles.{told_true}
use Rattle.held_facts.proofs.facts.HeldFacts.make.Goals as goal

pub returns-in_err-facts-clause-fault : goal.returns-in_err-facts-clause-fault
returns-in_err-facts-clause-fault g c =
    let s = c.args.self.now in
    let job = c.in-Some.job.now in
    let key = c.args.key.now in
    let inlining = c.args.schedule.now.inlining in
    let is : IsTilePlan (program_id_in job) (pipeline_in job) inlining key.stage key.row key.col c.in_ok-plan.plan =
    subst (λ (n : ℕ). IsTilePlan (program_id_in job) (pipeline_in job) inlining n key.row key.col c.in_ok-plan.plan) c.from-stage.ensures
    c.in_ok-plan.ensures.plan in
    let p = err_from_is_err_and c.from_residual-in_err-facts.result c.from_residual-in_err-facts.ensures.1 in
    rw (p.1, p.2)
    (stopped c.args.catalog.now s inlining key (entry_of job) c.in-Some.ensures.some c.in_ok-plan.plan is c.in_err-facts.field-0.0
    (subst (λ (ks : List Key). IsNeedsFault s (pipeline_in job) ks c.in_err-facts.field-0.0) c.needs.ensures c.in_err-facts.ensures.fault))

pub compute_fact_body_from_held_tiles-requires-clause-whole : goal.compute_fact_body_from_held_tiles-requires-clause-whole
compute_fact_body_from_held_tiles-requires-clause-whole g c =
    let s = c.args.self.now in
    let job = pipeline_in c.in-Some.job.now in
    subst (λ (fs : List Fact). AreWhole job (tiles_in fs)) (sym c.in_ok-facts.ensures.facts)
    (needed_whole s job c.needs.result.now c.in_ok-facts.ensures.ready)

pub compute_fact_body_from_held_tiles-requires-clause-given : goal.compute_fact_body_from_held_tiles-requires-clause-given
compute_fact_body_from_held_tiles-requires-clause-given g c =
    let s = c.args.self.now in
    let job = c.in-Some.job.now in
    let keys = c.needs.result.now in
    let is = c.in_ok-plan.ensures.plan in
    let asked : keys ≡ needed_keys (program_id_in job)
    (target_over (pipeline_in job) c.args.schedule.now.inlining c.from-stage.result is.area) =
    c.needs.ensures ∙ is.plan.plan.needs in
    subst (λ (fs : List Fact). first_missing (tiles_in fs) c.in_ok-plan.plan.needs ≡ None) (sym c.in_ok-facts.ensures.facts)
    (subst (λ (ks : List Key). first_missing (needed_tiles s keys) ks ≡ None) c.needs.ensures
    (all_told s (pipeline_in job) keys c.in_ok-facts.ensures.ready (λ need h.
    needed_function (program_id_in job) (target_over (pipeline_in job) c.args.schedule.now.inlining c.from-stage.result is.area)
    job.well need (subst (λ (ks : List Key). Contains ks need) asked h))))

pub invariant_of-compute_fact_body_from_held_tiles : goal.invariant_of-compute_fact_body_from_held_tiles
invariant_of-compute_fact_body_from_held_tiles g c =
    let s = c.args.self.now in
    let job = c.in-Some.job.now in
    let keys = c.needs.result.now in
    let is = c.in_ok-plan.ensures.plan in
    let t = target_over (pipeline_in job) c.args.schedule.now.inlining c.from-stage.result is.area in
    let asked : keys ≡ needed_keys (program_id_in job) t = c.needs.ensures ∙ is.plan.plan.needs in
    let rise : TilesRise (flat_map (facts_of s) (needed_keys (program_id_in job) t)) =
    needed_rise s (program_id_in job) t (subst (AreReady s (pipeline_in job)) asked c.in_ok-facts.ensures.ready) in
    record {
      rising =
          subst TilesRise (ap (flat_map (facts_of s)) (sym asked) ∙ sym c.in_ok-facts.ensures.facts) rise;
    }

pub returns-clause-made : goal.returns-clause-made
returns-clause-made g c =
    let catalog = c.args.catalog.now in
    let s = c.args.self.now in
    let job = c.in-Some.job.now in
    let key = c.args.key.now in
    let inlining = c.args.schedule.now.inlining in
    let is : IsTilePlan (program_id_in job) (pipeline_in job) inlining key.stage key.row key.col c.in_ok-plan.plan =
    subst (λ (n : ℕ). IsTilePlan (program_id_in job) (pipeline_in job) inlining n key.row key.col c.in_ok-plan.plan) c.from-stage.ensures
    c.in_ok-plan.ensures.plan in
    subst (IsMade catalog s inlining) (sym c.in-Ok.ensures.made)
    (made catalog s inlining key (entry_of job) c.in-Some.ensures.some c.in_ok-plan.plan is c.in_ok-facts.facts.items
    (c.in_ok-facts.ensures.facts ∙ ap (flat_map (facts_of s)) c.needs.ensures)
    (subst (AreReady s (pipeline_in job)) c.needs.ensures c.in_ok-facts.ensures.ready) c.in_ok-body.body
    (c.in_ok-body.ensures.local inlining is))

pub returns-clause-right : goal.returns-clause-right
returns-clause-right g c = λ right.
    let catalog = c.args.catalog.now in
    let s = c.args.self.now in
    let job = c.in-Some.job.now in
    let key = c.args.key.now in
    let inlining = c.args.schedule.now.inlining in
    let is : IsTilePlan (program_id_in job) (pipeline_in job) inlining key.stage key.row key.col c.in_ok-plan.plan =
    subst (λ (n : ℕ). IsTilePlan (program_id_in job) (pipeline_in job) inlining n key.row key.col c.in_ok-plan.plan) c.from-stage.ensures
    c.in_ok-plan.ensures.plan in
    let found = c.in-Some.ensures.some in
    let facts : c.in_ok-facts.facts.items ≡ flat_map (facts_of s) c.in_ok-plan.plan.needs =
    c.in_ok-facts.ensures.facts ∙ ap (flat_map (facts_of s)) c.needs.ensures in
    let true_tiles = told_true (pipeline_in job) (flat_map (facts_of s) c.in_ok-plan.plan.needs)
    (needed_true catalog s inlining key (entry_of job) found c.in_ok-plan.plan is c.in-Some.ensures.catalog right) in
    subst (IsTrueFact catalog) (sym c.in-Ok.ensures.made)
    (true_fact catalog s inlining key (entry_of job) found c.in_ok-body.body
    (c.in_ok-body.ensures.right (subst (λ (fs : List Fact). AreTrue (pipeline_in job) (tiles_in fs)) (sym facts) true_tiles)))
