use Rattle.std.proofs.Common.{ap, sym, ◌∙◌}
use Rattle.std.specs.Option.{option_map}
use Rattle.job.specs.Kept.{pipeline_in, program_id_in}
use Rattle.overlap_tiles.specs.Needs.{key_of}
use Rattle.tile_run.proofs.FirstTooBig.{fits_none}
use Rattle.tile_run.proofs.room.find_key_of_first_oversized_tile.Goals as goal

pub returns-then-fits : goal.returns-then-fits
returns-then-fits c =
    ap (option_map (key_of (program_id_in c.args.job.now) (pipeline_in c.args.job.now)))
    (sym (fits_none (pipeline_in c.args.job.now) c.args.schedule.now c.args.work c.requires.schedule (sym c.fits.ensures ∙ c.if-fits.true)))
