use Rattle.std.proofs.Common.{◌≡◌, ◌≤◌, length}
use Rattle.pipe_tokens.specs.declared.token.Keyword.TheVariants.{And}
use Rattle.pipe_tree.specs.declared.limits.Role.TheVariants.{Plain}
use Rattle.pipe_tree.specs.Lookahead.{is_word_at}
use Rattle.pipe_tree.specs.Reading.{while, next_behind, word, a_test, condition}
use Rattle.pipe_term_parser.specs.Answers.{at}
use Rattle.pipe_lang.proofs.items.parse_condition.Given as goal

abbrev pub invariant-loop-parser : goal.invariant-loop-parser
invariant-loop-parser l = record {
  reading : condition (at l.fn.parser) ≡ while (is_word_at And) (next_behind (word And Plain) a_test) l.tests.items (at l.parser);
  shorter : length l.parser.rest.now ≤ length l.fn.parser.rest.now;
}

abbrev pub decreases-loop-parser : goal.decreases-loop-parser
decreases-loop-parser l = length l.parser.rest.now
