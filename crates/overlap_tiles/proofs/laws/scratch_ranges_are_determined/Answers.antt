use Rattle.overlap_tiles.specs.inside.Made.{ranges_for, size_of}
use Rattle.overlap_tiles.proofs.RangesAreOne.{one_list}
use Rattle.overlap_tiles.proofs.RangesHaveRoom.{have_room}
use Rattle.overlap_tiles.proofs.laws.scratch_ranges_are_determined.Goals as goal

pub returns-clause-some : goal.returns-clause-some
returns-clause-some c = λ t. (ranges_for t, size_of (ranges_for t), have_room t)

pub returns-clause-one : goal.returns-clause-one
returns-clause-one c = one_list
