use Rattle.std.specs.List.{flat_map}
use Rattle.pipe_tree.specs.Tree.{declarations}
use Rattle.binding.specs.Binding.{item_tables}
use Rattle.binding.proofs.MisfitLaws.{tables_from, Passed}
use Rattle.binding.proofs.handed.find_index_of_mismatched_supplied_table.Given as goal

abbrev pub invariant-loop-item : goal.invariant-loop-item
invariant-loop-item l =
    Passed l.params (flat_map item_tables (declarations l.items)) l.given (tables_from l.items l.item-index) l.number
