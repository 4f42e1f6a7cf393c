use Rattle.overlap_tiles.proofs.StepsHaveWhatTheyRead.{lives_last}
use Rattle.overlap_tiles.proofs.laws.steps_live_until_their_last_reader.Goals as goal

pub returns : goal.returns
returns c = lives_last
