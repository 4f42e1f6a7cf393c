use Rattle.tile_eval.specs.Cases.{InBox}
use Rattle.one_tile.proofs.LocalValuesUnroll.{local_is_value}
use Rattle.tile_run.proofs.laws.true_tiles_give_true_local_values.Goals as goal

pub returns : goal.returns
returns c = λ job inlining given boxes g r x is true_tiles closed there. local_is_value job is inlining given true_tiles
    (λ h. InBox (boxes h)) closed g r x there
