-- The content of a tree in memory.
use Rattle.std.specs.Prelude.{List}
use Rattle.pipe_tree.specs.declared.tree.Item.{Item}
use Rattle.pipe_tree.specs.declared.tree.Tree.{Tree}
use Rattle.pipe_tree.specs.Tree.{Declaration, declarations}

-- the items in the order of the text
abbrev pub items_of : Tree → List Item
items_of tree = tree.items.items

-- all items of a tree as plain data
abbrev pub content : Tree → List Declaration
content tree = declarations (items_of tree)
