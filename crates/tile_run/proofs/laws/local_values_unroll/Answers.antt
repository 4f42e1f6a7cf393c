use Rattle.one_tile.proofs.LocalValuesUnroll.{local-unroll}
use Rattle.tile_run.proofs.laws.local_values_unroll.Goals as goal

pub returns : goal.returns
returns c = local-unroll
