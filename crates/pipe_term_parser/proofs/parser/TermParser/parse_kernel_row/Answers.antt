use Rattle.std.proofs.Common.{rules, sym, ◌∙◌, ◌≡◌, ◌++◌, ◌∷◌, []}
use Rattle.pipe_term_parser.specs.Answers.{at}
use Rattle.pipe_term_parser.proofs.Unrolled.{row_step}
use Rattle.pipe_term_parser.proofs.parser.TermParser.parse_kernel_row.Goals as goal

pub loop-self-preserved : goal.loop-self-preserved
loop-self-preserved c =
    let pushed : c.push-in-loop-self.new.self.items ≡ c.loop-self.entries.items ++ c.in_ok-entry.entry ∷ [] = search rules in
    record {
      reading =
          rw pushed (row_step _ c.loop-self.entries.items (at c.loop-self.self) (at c.expect_punct-in-loop-self.new.self)
          (at c.parse_kernel_entry-in-loop-self.new.self) c.in_ok-entry.entry (sym c.is_punct_ahead.ensures ∙ c.loop-self-test.true)
          c.in_ok-expect_punct-2.ensures.exact c.in_ok-entry.ensures.exact c.loop-self.invariant.reading);
      shorter = search rules;
    }
