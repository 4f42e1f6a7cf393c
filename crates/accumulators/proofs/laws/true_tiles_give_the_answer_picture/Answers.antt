use Rattle.pictures.proofs.TrueImage.{image_true}
use Rattle.accumulators.proofs.laws.true_tiles_give_the_answer_picture.Goals as goal

pub returns : goal.returns
returns c = image_true
