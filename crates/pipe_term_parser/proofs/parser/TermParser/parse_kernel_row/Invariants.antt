use Rattle.std.proofs.Common.{◌≡◌, ◌≤◌, length}
use Rattle.pipe_tokens.specs.declared.token.Punct.TheVariants.{Comma, CloseSquare}
use Rattle.pipe_tree.specs.declared.limits.Role.TheVariants.{Plain}
use Rattle.pipe_tree.specs.Lookahead.{is_mark_at}
use Rattle.pipe_tree.specs.Reading.{◌>>=◌, gives, while, next_behind, mark, entry, row}
use Rattle.pipe_term_parser.specs.Answers.{at}
use Rattle.pipe_term_parser.proofs.parser.TermParser.parse_kernel_row.Given as goal

abbrev pub invariant-loop-self : goal.invariant-loop-self
invariant-loop-self l = record {
  reading : row (at l.fn.self)
      ≡ (while (is_mark_at Comma) (next_behind (mark Comma Plain) entry) l.entries.items >>= λ xs. mark CloseSquare Plain >>= λ _. gives xs)
      (at l.self);
  shorter : length l.self.rest.now ≤ length l.fn.self.rest.now;
}

abbrev pub decreases-loop-self : goal.decreases-loop-self
decreases-loop-self l = length l.self.rest.now
