use Rattle.std.proofs.Common.{rules, ◌≡◌, Some, ◌∙◌}
use Rattle.std.specs.Option.{option_map}
use Rattle.std.specs.Prelude.{slice_get}
use Rattle.job.specs.Kept.{pipeline_in}
use Rattle.job.specs.Readers.{kind_of}
use Rattle.job.specs.declared.job.StageKind.TheVariants as kind
use Rattle.tile_fact.specs.declared.body.Body.TheVariants.{Tile, Partial}
use Rattle.held_facts.specs.Making.{tiles_in}
use Rattle.held_facts.proofs.LocalBodies.{function_kind, accumulator_kind, true_tile, true_partial, body_within}
use Rattle.held_facts.proofs.local_bodies.compute_fact_body_from_held_tiles.Goals as goal

-- ---- of a function

pub returns-in-Some-Function-clause-local : goal.returns-in-Some-Function-clause-local
returns-in-Some-Function-clause-local c = λ inlining is.
    let job = pipeline_in c.args.job.now in
    let key = c.args.key.now in
    let here : option_map kind_of (slice_get job.stages key.stage) ≡ Some kind.Function = search rules in (
      function_kind job key.stage here,
      c.in_ok-new-in-Some-Function.ensures ∙ c.in-Ok.ensures.values inlining key.stage key.row key.col is is.area is.tile,
    )

pub returns-in-Some-Function-clause-right : goal.returns-in-Some-Function-clause-right
returns-in-Some-Function-clause-right c = λ right.
    let job = pipeline_in c.args.job.now in
    let key = c.args.key.now in
    let own = c.requires.plan in
    let here : option_map kind_of (slice_get job.stages key.stage) ≡ Some kind.Function = search rules in
    true_tile job key.stage key.row key.col own.plan.area own.plan.tile (function_kind job key.stage here)
    c.in_ok-new-in-Some-Function.field-0 (λ area at.
    c.in_ok-new-in-Some-Function.ensures
    ∙ c.in-Ok.ensures.right right own.inlining key.stage key.row key.col own.plan area at)

pub returns-in-Some-Function-clause-within : goal.returns-in-Some-Function-clause-within
returns-in-Some-Function-clause-within c =
    let job = pipeline_in c.args.job.now in
    let key = c.args.key.now in
    let own = c.requires.plan in
    let local = returns-in-Some-Function-clause-local c own.inlining own.plan in
    body_within job own.inlining key.stage key.row key.col own.plan.area c.args.job.now.well own.plan.tile
    (tiles_in c.args.held.now.facts.items) (Tile c.in_ok-new-in-Some-Function.field-0) local

-- ---- of an accumulator

pub returns-in-Some-Accumulator-clause-local : goal.returns-in-Some-Accumulator-clause-local
returns-in-Some-Accumulator-clause-local c = λ inlining is.
    let job = pipeline_in c.args.job.now in
    let key = c.args.key.now in
    let here : option_map kind_of (slice_get job.stages key.stage) ≡ Some kind.Accumulator = search rules in (
      accumulator_kind job key.stage here,
      c.in_ok-new-in-Some-Accumulator.ensures
          ∙ c.in-Ok-partial.ensures.totals inlining key.stage key.row key.col is is.area is.tile,
    )

pub returns-in-Some-Accumulator-clause-right : goal.returns-in-Some-Accumulator-clause-right
returns-in-Some-Accumulator-clause-right c = λ right.
    let job = pipeline_in c.args.job.now in
    let key = c.args.key.now in
    let own = c.requires.plan in
    let here : option_map kind_of (slice_get job.stages key.stage) ≡ Some kind.Accumulator = search rules in
    true_partial job key.stage key.row key.col own.plan.area own.plan.tile (accumulator_kind job key.stage here)
    c.in_ok-new-in-Some-Accumulator.field-0 (λ area at.
    c.in_ok-new-in-Some-Accumulator.ensures
    ∙ c.in-Ok-partial.ensures.right right own.inlining key.stage key.row key.col own.plan area at)

pub returns-in-Some-Accumulator-clause-within : goal.returns-in-Some-Accumulator-clause-within
returns-in-Some-Accumulator-clause-within c =
    let job = pipeline_in c.args.job.now in
    let key = c.args.key.now in
    let own = c.requires.plan in
    let local = returns-in-Some-Accumulator-clause-local c own.inlining own.plan in
    body_within job own.inlining key.stage key.row key.col own.plan.area c.args.job.now.well own.plan.tile
    (tiles_in c.args.held.now.facts.items) (Partial c.in_ok-new-in-Some-Accumulator.field-0) local
