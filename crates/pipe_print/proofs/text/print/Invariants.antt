use Rattle.std.proofs.Common.{◌≡◌, take}
use Rattle.std.specs.List.{flat_map}
use Rattle.pipe_tree.specs.Tree.{declarations}
use Rattle.pipe_tree.specs.Content.{items_of}
use Rattle.pipe_print.specs.Canonical.{item_tokens}
use Rattle.pipe_print.proofs.text.print.Given as goal

abbrev pub invariant-loop-item : goal.invariant-loop-item
invariant-loop-item l = l.printer ≡ flat_map item_tokens (declarations (take l.item-index (items_of l.tree)))
