use Rattle.std.proofs.Common.{◌+◌, ◌*◌}
use Rattle.pipe_tree.specs.Tree.{view}
use Rattle.pipe_tree.specs.Sizes.{node_size}
use Rattle.pipe_print.proofs.printer.TokenPrinter.+expression.Given as goal

abbrev pub decreases-print_expression_without_parentheses : goal.decreases-print_expression_without_parentheses
decreases-print_expression_without_parentheses l = 5 * node_size 1 (view l.e.now)

abbrev pub decreases-print_expression : goal.decreases-print_expression
decreases-print_expression l = 5 * node_size 1 (view l.e.now) + 1

abbrev pub decreases-print_punct_and_expression : goal.decreases-print_punct_and_expression
decreases-print_punct_and_expression l = 5 * node_size 1 (view l.e.now) + 2

abbrev pub decreases-print_unary : goal.decreases-print_unary
decreases-print_unary l = 5 * node_size 1 (view l.a.now) + 3

abbrev pub decreases-print_binary : goal.decreases-print_binary
decreases-print_binary l = 5 * (node_size 1 (view l.a.now) + node_size 1 (view l.b.now)) + 3
