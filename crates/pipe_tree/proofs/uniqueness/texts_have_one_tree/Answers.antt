-- The tokens of a text are determined, and the reading of tokens answers one tree.
use Rattle.pipe_tree.proofs.Bytes.{one_tree}
use Rattle.pipe_tree.proofs.uniqueness.texts_have_one_tree.Goals as goal

pub returns : goal.returns
returns c = one_tree
