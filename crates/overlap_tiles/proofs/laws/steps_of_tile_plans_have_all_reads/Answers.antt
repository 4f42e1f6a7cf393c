use Rattle.overlap_tiles.proofs.StepsHaveWhatTheyRead.{reads_available}
use Rattle.overlap_tiles.proofs.laws.steps_of_tile_plans_have_all_reads.Goals as goal

pub returns : goal.returns
returns c = reads_available
