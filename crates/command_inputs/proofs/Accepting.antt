-- What `check` accepts means something.
use Rattle.pipe_tree.specs.Content.{content}
use Rattle.pipe_tree.specs.declared.tree.Tree.{Tree}
use Rattle.pipe_checks.specs.CheckedProgram.{CheckedProgram}
use Rattle.pipe_checks.specs.Checking.{IsCheckedOf, ranks_in}
use Rattle.command_inputs.specs.Input.{MeansSomething}

pub means_something : (tree : Tree) (c : CheckedProgram) → IsCheckedOf tree c → MeansSomething (content tree)
means_something tree c h = record { named = h.named; result = h.result; ranks = ranks_in c; ranking = h.ranks }
