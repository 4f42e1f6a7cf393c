use Rattle.std.proofs.Common.{◌≡◌, ◌≤◌, length}
use Rattle.pipe_tree.specs.Reading.{while, affine, is_sign_at, next_term}
use Rattle.pipe_term_parser.specs.Answers.{at}
use Rattle.pipe_term_parser.proofs.parser.TermParser.parse_affine.Given as goal

abbrev pub invariant-loop-self : goal.invariant-loop-self
invariant-loop-self l = record {
  reading : affine (at l.fn.self) ≡ while is_sign_at next_term l.terms.items (at l.self);
  shorter : length l.self.rest.now ≤ length l.fn.self.rest.now;
}

abbrev pub decreases-loop-self : goal.decreases-loop-self
decreases-loop-self l = length l.self.rest.now
