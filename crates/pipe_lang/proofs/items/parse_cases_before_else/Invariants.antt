use Rattle.std.proofs.Common.{◌≡◌, ◌≤◌, length}
use Rattle.pipe_tokens.specs.declared.token.Keyword.TheVariants as words
use Rattle.pipe_tree.specs.Limits.{most_levels}
use Rattle.pipe_tree.specs.Lookahead.{is_word_at}
use Rattle.pipe_tree.specs.Tree.{branches}
use Rattle.pipe_tree.specs.Reading.{while, a_case, cases_at}
use Rattle.pipe_term_parser.specs.Answers.{at}
use Rattle.pipe_lang.proofs.items.parse_cases_before_else.Given as goal

abbrev pub invariant-loop-parser : goal.invariant-loop-parser
invariant-loop-parser l = record {
  reading : cases_at most_levels (at l.fn.parser)
      ≡ while (is_word_at words.Case) (a_case most_levels) (branches l.cases.items) (at l.parser);
  shorter : length l.parser.rest.now ≤ length l.fn.parser.rest.now;
}

abbrev pub decreases-loop-parser : goal.decreases-loop-parser
decreases-loop-parser l = length l.parser.rest.now
