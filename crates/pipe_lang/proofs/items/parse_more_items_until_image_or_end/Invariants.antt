use Rattle.std.proofs.Common.{◌≡◌, ◌≤◌, length}
use Rattle.pipe_tree.specs.Limits.{most_levels}
use Rattle.pipe_tree.specs.Tree.{declarations}
use Rattle.pipe_tree.specs.Reading.{others}
use Rattle.pipe_term_parser.specs.Answers.{at}
use Rattle.pipe_lang.proofs.items.parse_more_items_until_image_or_end.Given as goal

abbrev pub invariant-loop-parser : goal.invariant-loop-parser
invariant-loop-parser l = record {
  reading : others most_levels (declarations l.fn.items.items) (at l.fn.parser)
      ≡ others most_levels (declarations l.items.items) (at l.parser);
  shorter : length l.parser.rest.now ≤ length l.fn.parser.rest.now;
}

abbrev pub decreases-loop-parser : goal.decreases-loop-parser
decreases-loop-parser l = length l.parser.rest.now
