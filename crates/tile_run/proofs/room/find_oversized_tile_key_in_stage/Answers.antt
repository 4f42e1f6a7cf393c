use Rattle.std.proofs.Common.{ℕ, ap, sym, ◌∙◌, Some}
use Rattle.std.specs.Option.{option_map}
use Rattle.job.specs.Kept.{pipeline_in, program_id_in}
use Rattle.overlap_tiles.specs.Needs.{key_of, tile_of_stage}
use Rattle.tile_run.proofs.FirstTooBig.{number_fits, first_key}
use Rattle.tile_run.proofs.room.find_oversized_tile_key_in_stage.Goals as goal

pub build_oversized_tile_key-requires : goal.build_oversized_tile_key-requires
build_oversized_tile_key-requires c = number_fits (pipeline_in c.args.job.now) c.args.job.now.well c.args.stage c.in-Some.grid (sym c.in-Some.ensures)

pub returns-in-Some-2 : goal.returns-in-Some-2
returns-in-Some-2 c =
    let job = pipeline_in c.args.job.now in
    ap Some c.build_oversized_tile_key.ensures
    ∙ ap (option_map (λ (t : ℕ × ℕ). key_of (program_id_in c.args.job.now) job (tile_of_stage c.args.stage t))) (sym c.in-Some-2.is)
    ∙ first_key (program_id_in c.args.job.now) job c.args.schedule.now.inlining c.args.stage c.in-Some.grid (sym c.in-Some.ensures)
    c.in_ok-row.field-0 c.in_ok-row.ensures

pub returns-in-None : goal.returns-in-None
returns-in-None c =
    let job = pipeline_in c.args.job.now in
    ap (option_map (λ (t : ℕ × ℕ). key_of (program_id_in c.args.job.now) job (tile_of_stage c.args.stage t))) (sym c.in-None.is)
    ∙ first_key (program_id_in c.args.job.now) job c.args.schedule.now.inlining c.args.stage c.in-Some.grid (sym c.in-Some.ensures)
    c.in_ok-row.field-0 c.in_ok-row.ensures
