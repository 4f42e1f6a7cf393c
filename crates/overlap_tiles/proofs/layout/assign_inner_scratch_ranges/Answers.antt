use Rattle.std.proofs.Common.{ℕ, ◌≡◌, ◌++◌, ◌∷◌, [], List, map, length, ap, ◌∙◌, sym}
use Rattle.std.proofs.lemmas.List.{length-map}
use Rattle.std.proofs.lemmas.Result.{IfOk-weaker}
use Rattle.domains.specs.declared.area.Area.{Area}
use Rattle.job.specs.Kept.{pipeline_in}
use Rattle.grouping.specs.Greedy.{reads_at}
use Rattle.overlap_tiles.specs.inside.Made.{marked, list_last_reader_places_by_stage, ranges_by}
use Rattle.overlap_tiles.specs.Views.{step_view}
use Rattle.overlap_tiles.proofs.LastReaders.{last_readers_push}
use Rattle.overlap_tiles.proofs.layout.assign_inner_scratch_ranges.Goals as goal

pub returns-clause-ranges : goal.returns-clause-ranges
returns-clause-ranges c =
    let job = pipeline_in c.args.job.now in
    let inner : List (ℕ × Area) = map step_view c.args.inner.now in
    let table : c.deref.result.now ≡ list_last_reader_places_by_stage job (inner ++ step_view c.args.target ∷ []) =
    c.deref.ensures.value ∙ c.record_stage_as_last_reader.ensures
    ∙ ap (λ (ls : List ℕ). marked (length c.args.inner.now) ls (reads_at job c.args.target.stage)) c.in_ok-lasts.ensures
    ∙ last_readers_push job inner (step_view c.args.target) (length c.args.inner.now) (sym (length-map c.args.inner.now step_view)) in
    IfOk-weaker c.assign_scratch_ranges.result _ _ (λ rs e. e ∙ ap (λ (ls : List ℕ). ranges_by ls inner) table) c.assign_scratch_ranges.ensures.ranges
