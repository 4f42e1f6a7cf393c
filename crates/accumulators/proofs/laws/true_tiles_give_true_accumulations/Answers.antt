use Rattle.tile_eval.specs.Cases.{InBox}
use Rattle.partials.proofs.PartialsJoin.{true_totals}
use Rattle.accumulators.proofs.laws.true_tiles_give_true_accumulations.Goals as goal

pub returns : goal.returns
returns c = λ job inlining given boxes g s area is there within true_tiles closed reads. true_totals job inlining given
    (λ h. InBox (boxes h)) g s area is there within true_tiles closed reads
