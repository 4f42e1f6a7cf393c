use Rattle.std.proofs.Common.{◌≡◌, ◌≤◌, length, ◌+◌, ◌*◌}
use Rattle.pipe_tree.specs.Tree.{view}
use Rattle.pipe_tree.specs.Reading.{while, is_sign_at, is_factor_at, sum_more, product_more, unary_at, product_at, expression_at}
use Rattle.pipe_term_parser.specs.Answers.{at}
use Rattle.pipe_term_parser.proofs.parser.TermParser.+expression.Given as goal

abbrev pub decreases-parse_expression : goal.decreases-parse_expression
decreases-parse_expression l = 6 * l.levels + 4

abbrev pub decreases-parse_boxed_expression : goal.decreases-parse_boxed_expression
decreases-parse_boxed_expression l = 6 * l.levels + 5

abbrev pub decreases-parse_product : goal.decreases-parse_product
decreases-parse_product l = 6 * l.levels + 3

abbrev pub decreases-parse_unary : goal.decreases-parse_unary
decreases-parse_unary l = 6 * l.levels + 2

abbrev pub decreases-parse_named_expression : goal.decreases-parse_named_expression
decreases-parse_named_expression l = 6 * l.levels + 1

abbrev pub decreases-parse_table_entry : goal.decreases-parse_table_entry
decreases-parse_table_entry l = 6 * l.levels + 6

abbrev pub decreases-parse_expression_that_opens_level : goal.decreases-parse_expression_that_opens_level
decreases-parse_expression_that_opens_level l = 6 * l.levels + 7

abbrev pub decreases-parse_arguments_into_call : goal.decreases-parse_arguments_into_call
decreases-parse_arguments_into_call l = 6 * l.levels + 6

abbrev pub decreases-parse_select : goal.decreases-parse_select
decreases-parse_select l = 6 * l.levels + 6

abbrev pub invariant-parse_expression-loop-left : goal.invariant-parse_expression-loop-left
invariant-parse_expression-loop-left l = record {
  reading : expression_at l.levels (at l.fn.self) ≡ while is_sign_at (sum_more (product_at l.levels)) (view l.left) (at l.self);
  shorter : length l.self.rest.now ≤ length l.fn.self.rest.now;
}

abbrev pub decreases-parse_expression-loop-left : goal.decreases-parse_expression-loop-left
decreases-parse_expression-loop-left l = length l.self.rest.now

abbrev pub invariant-parse_product-loop-left : goal.invariant-parse_product-loop-left
invariant-parse_product-loop-left l = record {
  reading : product_at l.levels (at l.fn.self) ≡ while is_factor_at (product_more (unary_at l.levels)) (view l.left) (at l.self);
  shorter : length l.self.rest.now ≤ length l.fn.self.rest.now;
}

abbrev pub decreases-parse_product-loop-left : goal.decreases-parse_product-loop-left
decreases-parse_product-loop-left l = length l.self.rest.now
