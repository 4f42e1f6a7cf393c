use Rattle.overlap_tiles.proofs.StepsHaveWhatTheyRead.{step_in_domain}
use Rattle.overlap_tiles.proofs.laws.steps_of_tile_plans_lie_in_domains.Goals as goal

pub returns : goal.returns
returns c = step_in_domain
