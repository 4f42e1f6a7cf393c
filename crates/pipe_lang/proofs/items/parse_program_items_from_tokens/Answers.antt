-- The program that is read, without where the parser is.
use Rattle.std.proofs.Common.{subst}
use Rattle.pipe_tree.specs.Limits.{most_levels}
use Rattle.pipe_tree.specs.Tree.{declarations}
use Rattle.pipe_tree.specs.Reading.{At, whole, program_of}
use Rattle.pipe_term_parser.specs.Answers.{at, Reads}
use Rattle.pipe_lang.proofs.ItemUnrolled.{reads_value}
use Rattle.pipe_tree.proofs.Theorems.{start}
use Rattle.pipe_lang.proofs.items.parse_program_items_from_tokens.Goals as goal

pub returns : goal.returns
unfolding program_of
returns c =
    reads_value c.parse_all_items.result (whole most_levels (start c.args.tokens.now)) (at c.parse_all_items.new.parser)
    (subst (λ (s : At). Reads (λ items. (declarations items.items, at c.parse_all_items.new.parser)) c.parse_all_items.result (whole most_levels s))
    c.new.ensures c.parse_all_items.ensures.exact)
