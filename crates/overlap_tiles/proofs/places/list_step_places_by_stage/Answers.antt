use Rattle.std.proofs.Common.{ℕ, ◌+◌, ◌<◌, ap, ◌∙◌, take, ◌++◌, ◌∷◌, [], List, Option, Some, map, length, arith, sym, subst}
use Rattle.std.proofs.lemmas.List.{length-set, length-map, get_or-map, take_all}
use Rattle.domains.specs.declared.area.Area.{Area}
use Rattle.overlap_tiles.specs.declared.steps.TileStep.{TileStep}
use Rattle.overlap_tiles.specs.inside.Placed.{ArePlaces}
use Rattle.overlap_tiles.specs.Views.{step_view}
use Rattle.overlap_tiles.proofs.PlacesAreFound.{next_places}
use Rattle.overlap_tiles.proofs.places.list_step_places_by_stage.Goals as goal

pub loop-place-preserved : goal.loop-place-preserved
loop-place-preserved c =
    let steps : List TileStep = c.args.steps.now in
    let i = c.loop-place.place in
    let step = c.index-steps-place.result in
    let less = c.loop-place-test.true in
    let places : List (Option ℕ) = c.loop-place.places.items in
    let size = c.loop-place.invariant.size in
    let own = ap (λ (s : TileStep). s.stage) c.index-steps-place.is in
    let at = ap (λ (s : ℕ × Area). s.0) (get_or-map step_view steps i step (step_view step) less) in
    let inside = c.requires i (step_view step) (omega (arith, length-map steps step_view)) in
    let within : step.stage < length places = omega arith in
    record {
      size = ap length c.record_step_place.ensures ∙ length-set places step.stage (Some i) ∙ size;
      places = λ target.
          subst (λ (ps : List (Option ℕ)). ArePlaces (map step_view (take (i + 1) steps) ++ target ∷ []) ps) (sym c.record_step_place.ensures)
          (next_places steps i step places less c.index-steps-place.is within c.loop-place.invariant.places target);
    }

pub returns : goal.returns
returns c = λ target. subst (λ (ss : List TileStep). ArePlaces (map step_view ss ++ target ∷ []) c.loop-place.places.items)
    (take_all c.loop-place.place c.args.steps.now c.loop-place-test.false) (c.loop-place.invariant.places target)
