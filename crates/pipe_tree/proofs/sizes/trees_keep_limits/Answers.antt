use Rattle.pipe_tree.proofs.SizeLaws.{keeps_limits}
use Rattle.pipe_tree.proofs.sizes.trees_keep_limits.Goals as goal

pub returns : goal.returns
returns c = keeps_limits
