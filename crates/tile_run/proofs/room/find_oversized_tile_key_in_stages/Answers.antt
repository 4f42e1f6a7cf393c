use Rattle.std.proofs.Common.{arith, ℕ, refl, ap, sym, ◌∙◌, List, find, filter, slice_index_or}
use Rattle.std.specs.List.{flat_map}
use Rattle.std.specs.Option.{option_map}
use Rattle.std.proofs.lemmas.List.{drop_all}
use Rattle.job.specs.Answers.{tiles}
use Rattle.job.specs.Kept.{pipeline_in, program_id_in}
use Rattle.overlap_tiles.specs.Needs.{key_of}
use Rattle.overlap_tiles.specs.Work.{is_tile_over_scratch_limit}
use Rattle.tile_run.specs.Work.{wanted_by}
use Rattle.tile_run.proofs.FirstFound.{first_skipped, wanted_found, wanted_behind}
use Rattle.tile_run.proofs.room.find_oversized_tile_key_in_stages.Goals as goal
use Rattle.tile_run.proofs.room.find_oversized_tile_key_in_stages.Goals.{then-is_stage_among_tiled_stages_of_run+in_ok-found+else-is_some, else-is_stage_among_tiled_stages_of_run}

pub returns-then-is_some : goal.returns-then-is_some
returns-then-is_some c =
    let job = pipeline_in c.args.job.now in
    let inlining = c.args.schedule.now.inlining in
    let k = c.loop-number.number-index in
    wanted_found (is_tile_over_scratch_limit job inlining) (tiles job) (wanted_by job inlining c.args.work) c.args.order.now k
    (slice_index_or c.args.order.now k 0) c.loop-number-test.true refl
    (key_of (program_id_in c.args.job.now) job) (sym c.is_stage_among_tiled_stages_of_run.ensures
    ∙ c.if-is_stage_among_tiled_stages_of_run.true) c.in_ok-found.found c.in_ok-found.ensures (sym c.is_some.ensures ∙ c.if-is_some.true)
    ∙ ap (option_map (key_of (program_id_in c.args.job.now) job)) c.loop-number.invariant

pub loop-number-preserved : goal.loop-number-preserved
loop-number-preserved c =
    let job = pipeline_in c.args.job.now in
    let inlining = c.args.schedule.now.inlining in
    let k = c.loop-number.number-index in
    elim c.if-is_stage_among_tiled_stages_of_run.branch [
      | then-is_stage_among_tiled_stages_of_run+in_ok-found+else-is_some w ↦ wanted_behind (is_tile_over_scratch_limit job inlining) (tiles job) (wanted_by job inlining c.args.work)
          c.args.order.now k (slice_index_or c.args.order.now k 0) c.loop-number-test.true refl
          (key_of (program_id_in c.args.job.now) job) (sym c.is_stage_among_tiled_stages_of_run.ensures
          ∙ w.if-is_stage_among_tiled_stages_of_run.true) w.in_ok-found.found w.in_ok-found.ensures (sym w.is_some.ensures ∙ w.if-is_some.false)
          ∙ c.loop-number.invariant
      | else-is_stage_among_tiled_stages_of_run w ↦ first_skipped (is_tile_over_scratch_limit job inlining) (tiles job) (wanted_by job inlining c.args.work) c.args.order.now k
          (slice_index_or c.args.order.now k 0) c.loop-number-test.true refl
          (sym c.is_stage_among_tiled_stages_of_run.ensures ∙ w.if-is_stage_among_tiled_stages_of_run.false)
          ∙ c.loop-number.invariant
    ]

pub returns : goal.returns
returns c =
    let job = pipeline_in c.args.job.now in
    let inlining = c.args.schedule.now.inlining in
    ap (option_map (key_of (program_id_in c.args.job.now) job))
    (ap (λ (gs : List ℕ). find (is_tile_over_scratch_limit job inlining) (flat_map (tiles job) (filter (wanted_by job inlining c.args.work) gs)))
    (sym (drop_all c.loop-number.number-index c.args.order.now (omega (arith, c.loop-number-test.false))))
    ∙ c.loop-number.invariant)
