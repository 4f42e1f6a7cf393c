use Rattle.overlap_tiles.specs.Needs.{needed_keys, IsKeyBefore}
use Rattle.overlap_tiles.proofs.KeysRise.{keys_rise}
use Rattle.one_tile.specs.Runs.{is_missing}
use Rattle.one_tile.proofs.LayoutsPrepare.{found_least}
use Rattle.tile_run.proofs.laws.first_missing_tile_has_least_key.Goals as goal

pub returns : goal.returns
returns c = λ program t given key other. found_least IsKeyBefore (is_missing given) (needed_keys program t) (keys_rise program t) key other
