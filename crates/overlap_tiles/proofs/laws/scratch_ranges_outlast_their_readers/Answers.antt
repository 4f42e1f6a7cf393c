use Rattle.overlap_tiles.proofs.RangesAreOne.{not_written_over}
use Rattle.overlap_tiles.proofs.laws.scratch_ranges_outlast_their_readers.Goals as goal

pub returns : goal.returns
returns c = not_written_over
